use Rattle.aim_rules.proofs.BlameLaws.{gone_with_holder}
use Rattle.aim_rules.proofs.laws.refusals_for_a_cell_go_with_its_holder.Goals as goal

pub returns : goal.returns
returns c = gone_with_holder
