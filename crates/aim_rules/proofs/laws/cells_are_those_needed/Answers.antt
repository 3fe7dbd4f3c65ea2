use Rattle.aim_rules.proofs.CellLemmas.{cells_has, cells_needed}
use Rattle.aim_rules.proofs.laws.cells_are_those_needed.Goals as goal

pub returns : goal.returns
returns c i p fast d before after = (cells_needed i p fast d, cells_has i p fast d before after)
