use Rattle.aim_rules.proofs.TakenLaws.{one_holder}
use Rattle.aim_rules.proofs.growth.a_cell_has_one_holder.Goals as goal

pub returns : goal.returns
returns c = one_holder
