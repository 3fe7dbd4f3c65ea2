use Rattle.aim_layout.proofs.MadeLemmas.{valid_made}
use Rattle.aim_layout.proofs.laws.valid_layout_is_of_taken_lines.Goals as goal

pub returns : goal.returns
returns c = valid_made
