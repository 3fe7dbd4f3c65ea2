use Rattle.aim_script_reading.proofs.Undecided.{one_byte}
use Rattle.aim_script_reading.proofs.laws.one_byte_decides.Goals as goal

pub returns : goal.returns
returns g c r bytes decided = one_byte r bytes decided
