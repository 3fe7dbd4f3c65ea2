use Rattle.aim_rules.proofs.BlameLaws.{green_blames, taken_blames}
use Rattle.aim_rules.proofs.laws.refusals_for_a_cell_blame_another.Goals as goal

pub returns-clause-taken : goal.returns-clause-taken
returns-clause-taken c = taken_blames

pub returns-clause-green : goal.returns-clause-green
returns-clause-green c = green_blames
