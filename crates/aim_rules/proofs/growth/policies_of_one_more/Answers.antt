use Rattle.aim_rules.proofs.PolicyLaws.{policy_at-changes, changes-snoc, green-before, green-none, is_stopped-snoc}
use Rattle.aim_rules.proofs.growth.policies_of_one_more.Goals as goal

pub returns-clause-at : goal.returns-clause-at
returns-clause-at c = policy_at-changes

pub returns-clause-changed : goal.returns-clause-changed
returns-clause-changed c = changes-snoc

pub returns-clause-before : goal.returns-clause-before
returns-clause-before c = green-before

pub returns-clause-none : goal.returns-clause-none
returns-clause-none c = green-none

pub returns-clause-stop : goal.returns-clause-stop
returns-clause-stop c = is_stopped-snoc
