use Rattle.aim_messages.specs.declared.script.Line.TheVariants as line
use Rattle.aim_drive_script.specs.Said.{until_in}
use Rattle.aim_drive_script.proofs.Scanning.{found_next}
use Rattle.aim_drive_script.proofs.questions.until_of.Goals as goal

pub loop-line-preserved : goal.loop-line-preserved
loop-line-preserved c = found_next until_in c.args.lines.now c.loop-line.line-index (line.Version 0) c.loop-line.found c.until_in.result c.or-found.result c.loop-line-test.true c.loop-line.invariant c.until_in.ensures c.or-found.ensures
