use Rattle.aim_io.specs.Lines.{outcomes_of}
use Rattle.aim_script.proofs.FirstLemmas.{first_that_decides}
use Rattle.aim_script.proofs.laws.verdict_is_of_the_first_line_that_decides.Goals as goal

pub returns : goal.returns
returns c reads bytes = first_that_decides reads (outcomes_of bytes)
