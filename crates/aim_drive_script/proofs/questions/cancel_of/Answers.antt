use Rattle.aim_messages.specs.declared.script.Line.TheVariants as line
use Rattle.aim_drive_script.specs.Said.{cancel_in}
use Rattle.aim_drive_script.proofs.Scanning.{found_next}
use Rattle.aim_drive_script.proofs.questions.cancel_of.Goals as goal

pub loop-line-preserved : goal.loop-line-preserved
loop-line-preserved c = found_next (cancel_in c.args.vehicle) c.args.lines.now c.loop-line.line-index (line.Version 0) c.loop-line.found c.cancel_in.result c.or-found.result c.loop-line-test.true c.loop-line.invariant c.cancel_in.ensures c.or-found.ensures
