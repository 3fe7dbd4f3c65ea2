use Rattle.aim_policies.proofs.Histories.{claimed_for_others, claimed_for_all}
use Rattle.aim_policies.proofs.laws.claims_are_those_of_the_history.Goals as goal

pub returns-clause-others : goal.returns-clause-others
returns-clause-others c i h except cell = claimed_for_others i h except cell

pub returns-clause-all : goal.returns-clause-all
returns-clause-all c i h cell = claimed_for_all i h cell
