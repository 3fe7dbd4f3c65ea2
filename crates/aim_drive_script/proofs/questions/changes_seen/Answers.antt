use Rattle.aim_messages.specs.declared.script.Line.TheVariants as line
use Rattle.aim_drive_script.specs.Said.{change_in}
use Rattle.aim_drive_script.specs.Seen.{changes_with, seen_changes}
use Rattle.aim_drive_script.proofs.Scanning.{kept_next, changes_grow, changes_few}
use Rattle.aim_drive_script.proofs.questions.changes_seen.Goals as goal

pub loop-line-preserved : goal.loop-line-preserved
loop-line-preserved c =
    let i = c.loop-line.invariant in record {
      seen = kept_next (change_in c.args.vehicle) seen_changes changes_with c.args.lines.now c.loop-line.line-index (line.Version 0) c.loop-line.seen c.change_in.result c.and-seen.result changes_grow c.loop-line-test.true i.seen c.change_in.ensures c.and-seen.ensures;
      few = changes_few c.loop-line.seen c.change_in.result c.loop-line.line-index c.and-seen.result i.few c.and-seen.ensures;
    }
