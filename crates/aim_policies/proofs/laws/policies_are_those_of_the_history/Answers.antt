use Rattle.std.proofs.Common.{sym}
use Rattle.aim_rules.proofs.PolicyLaws.{policy_at-changes}
use Rattle.aim_policies.proofs.laws.policies_are_those_of_the_history.Goals as goal

pub returns : goal.returns
returns c h step = sym (policy_at-changes h step)
