use Rattle.aim_rules.proofs.TimeLaws.{lasts-greatest, holding-later, is_coming-earlier, has_cell-lasts, if_lasts-next}
use Rattle.aim_rules.proofs.PolicyLaws.{policy_in-pruned}
use Rattle.aim_rules.proofs.growth.time_passes.Goals as goal

pub returns-clause-lasts : goal.returns-clause-lasts
returns-clause-lasts c = lasts-greatest

pub returns-clause-holds : goal.returns-clause-holds
returns-clause-holds c = holding-later

pub returns-clause-coming : goal.returns-clause-coming
returns-clause-coming c = is_coming-earlier

pub returns-clause-cells : goal.returns-clause-cells
returns-clause-cells c = has_cell-lasts

pub returns-clause-next : goal.returns-clause-next
returns-clause-next c = if_lasts-next

pub returns-clause-policy : goal.returns-clause-policy
returns-clause-policy c = policy_in-pruned
