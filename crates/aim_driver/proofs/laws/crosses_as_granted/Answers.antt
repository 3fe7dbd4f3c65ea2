use Rattle.aim_driver.proofs.CrossingLemmas.{fitting_ran}
use Rattle.aim_driver.proofs.laws.crosses_as_granted.Goals as goal

pub returns : goal.returns
returns c = fitting_ran
