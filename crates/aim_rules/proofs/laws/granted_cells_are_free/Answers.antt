use Rattle.aim_rules.proofs.AheadLemmas.{granted_free}
use Rattle.aim_rules.proofs.laws.granted_cells_are_free.Goals as goal

pub returns : goal.returns
returns c = granted_free
