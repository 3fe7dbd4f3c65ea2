use Rattle.aim_driver.proofs.InTime.{crosses_in_time}
use Rattle.aim_driver.proofs.laws.who_is_told_in_time_crosses.Goals as goal

pub returns : goal.returns
returns c = crosses_in_time
