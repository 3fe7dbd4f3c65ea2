use Rattle.aim_io.specs.Lines.{outcomes_of}
use Rattle.aim_script.specs.Verdicts.{verdict}
use Rattle.aim_script.proofs.FirstLemmas.{first_that_decides}
use Rattle.aim_script.proofs.LineLemmas.{lines_in_order}
use Rattle.aim_script.proofs.laws.lines_before_a_verdict_stand_in_order.Goals as goal

pub returns : goal.returns
returns c reads bytes = lines_in_order reads (outcomes_of bytes) (verdict reads bytes) (first_that_decides reads (outcomes_of bytes))
