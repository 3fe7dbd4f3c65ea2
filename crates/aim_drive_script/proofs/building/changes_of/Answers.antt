use Rattle.aim_messages.specs.declared.script.Line.TheVariants as line
use Rattle.aim_drive_script.specs.Said.{change_in}
use Rattle.aim_drive_script.proofs.Kinding.{change_at}
use Rattle.aim_drive_script.proofs.Scanning.{given_next}
use Rattle.aim_drive_script.proofs.building.changes_of.Goals as goal

pub add_change-requires : goal.add_change-requires
add_change-requires c = change_at c.args.lines.now c.loop-line.line-index c.args.vehicle c.loop-line.changes c.change_in.result c.requires c.loop-line-test.true c.loop-line.invariant c.change_in.ensures

pub loop-line-preserved : goal.loop-line-preserved
loop-line-preserved c =
    given_next (change_in c.args.vehicle) c.args.lines.now c.loop-line.line-index (line.Version 0) c.loop-line.changes c.change_in.result c.add_change.new.changes c.loop-line-test.true c.loop-line.invariant c.change_in.ensures c.add_change.ensures
