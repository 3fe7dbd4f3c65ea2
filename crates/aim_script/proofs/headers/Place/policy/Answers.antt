use Rattle.aim_script.proofs.HeaderLemmas.{first_policy, next_policy}
use Rattle.aim_script.proofs.headers.Place.policy.Goals as goal

pub returns-in-Moves : goal.returns-in-Moves
returns-in-Moves c before st = first_policy before _ _ _ _ _ c.in-Moves.is (rw c.new.ensures at c.with_policy.ensures) st

pub returns-in-Policies : goal.returns-in-Policies
returns-in-Policies c before st = next_policy before _ _ _ _ _ _ c.in-Policies.is c.with_policy-in-Policies.ensures st
