use Rattle.aim_layout.proofs.AddedLemmas.{layout_is_its_lines}
use Rattle.aim_layout.proofs.laws.layout_is_its_lines.Goals as goal

pub returns : goal.returns
returns c = layout_is_its_lines
