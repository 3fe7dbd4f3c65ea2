use Rattle.aim_script_reading.proofs.Undecided.{one_needed}
use Rattle.aim_script_reading.proofs.laws.one_read_is_the_last.Goals as goal

pub returns : goal.returns
returns g c r bytes rest n x y = one_needed r bytes rest n x y
