use Rattle.aim_rules.proofs.TakenLaws.{reservations-have, reservations-kept}
use Rattle.aim_rules.proofs.growth.reservations_are_kept_and_last.Goals as goal

pub returns-clause-has : goal.returns-clause-has
returns-clause-has c = reservations-have

pub returns-clause-is : goal.returns-clause-is
returns-clause-is c = reservations-kept
