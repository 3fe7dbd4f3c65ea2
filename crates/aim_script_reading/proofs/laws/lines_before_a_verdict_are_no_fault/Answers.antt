use Rattle.aim_io.specs.Lines.{outcomes_of}
use Rattle.aim_script_reading.proofs.First.{before_are_script}
use Rattle.aim_script_reading.proofs.laws.lines_before_a_verdict_are_no_fault.Goals as goal

pub returns : goal.returns
returns g c r bytes = before_are_script r (outcomes_of bytes)
