use Rattle.aim_driver.proofs.HowFar.{followed_far, is_one}
use Rattle.aim_driver.proofs.laws.each_driver_is_one_of_six.Goals as goal

pub returns-clause-some : goal.returns-clause-some
returns-clause-some c = followed_far

pub returns-clause-one : goal.returns-clause-one
returns-clause-one c = is_one
