use Rattle.aim_driver.proofs.InTime.{is_done_in_time}
use Rattle.aim_driver.proofs.laws.who_is_past_its_crossing_is_done.Goals as goal

pub returns : goal.returns
returns c = is_done_in_time
