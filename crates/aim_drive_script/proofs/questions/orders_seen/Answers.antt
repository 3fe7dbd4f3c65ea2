use Rattle.aim_messages.specs.declared.script.Line.TheVariants as line
use Rattle.aim_drive_script.specs.Said.{moment_in}
use Rattle.aim_drive_script.specs.Seen.{orders_with, seen_orders}
use Rattle.aim_drive_script.proofs.Scanning.{kept_next, orders_grow, orders_few}
use Rattle.aim_drive_script.proofs.questions.orders_seen.Goals as goal

pub loop-line-preserved : goal.loop-line-preserved
loop-line-preserved c =
    let i = c.loop-line.invariant in record {
      seen = kept_next moment_in seen_orders orders_with c.args.lines.now c.loop-line.line-index (line.Version 0) c.loop-line.seen c.moment_in.result c.and-seen.result orders_grow c.loop-line-test.true i.seen c.moment_in.ensures c.and-seen.ensures;
      few = orders_few c.loop-line.seen c.moment_in.result c.loop-line.line-index c.and-seen.result i.few c.and-seen.ensures;
    }
