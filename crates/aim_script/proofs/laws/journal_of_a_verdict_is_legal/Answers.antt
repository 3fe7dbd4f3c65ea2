use Rattle.aim_io.specs.Lines.{outcomes_of}
use Rattle.aim_script.specs.Verdicts.{verdict}
use Rattle.aim_script.proofs.FirstLemmas.{first_that_decides}
use Rattle.aim_script.proofs.CallLemmas.{journal_legal}
use Rattle.aim_script.proofs.laws.journal_of_a_verdict_is_legal.Goals as goal

pub returns : goal.returns
returns c reads bytes = journal_legal reads (outcomes_of bytes) (verdict reads bytes) (first_that_decides reads (outcomes_of bytes))
