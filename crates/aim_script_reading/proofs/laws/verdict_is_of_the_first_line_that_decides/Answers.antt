use Rattle.aim_io.specs.Lines.{outcomes_of}
use Rattle.aim_script_reading.proofs.First.{of_the_first}
use Rattle.aim_script_reading.proofs.laws.verdict_is_of_the_first_line_that_decides.Goals as goal

pub returns : goal.returns
returns g c r bytes = of_the_first r (outcomes_of bytes)
