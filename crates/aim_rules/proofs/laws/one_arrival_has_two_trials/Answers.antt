use Rattle.aim_rules.proofs.OneArrival.{granted_start, two_trials-answer}
use Rattle.aim_rules.proofs.laws.one_arrival_has_two_trials.Goals as goal

pub returns-clause-answer : goal.returns-clause-answer
returns-clause-answer c = two_trials-answer

pub returns-clause-starts : goal.returns-clause-starts
returns-clause-starts c = granted_start
