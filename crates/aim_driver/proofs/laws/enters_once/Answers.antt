use Rattle.aim_driver.proofs.CrossingLemmas.{log_once}
use Rattle.aim_driver.proofs.laws.enters_once.Goals as goal

pub returns : goal.returns
returns c = log_once
