use Rattle.std.proofs.Common.{map, refl, get_or}
use Rattle.aim_messages.specs.declared.script.Line.TheVariants as line
use Rattle.aim_drive_script.specs.Said.{drive_in}
use Rattle.aim_drive_script.specs.Scripts.{drive_told}
use Rattle.aim_drive_script.proofs.Scanning.{given_next, given_all}
use Rattle.aim_drive_script.proofs.building.plans_of.Goals as goal

pub loop-line-preserved : goal.loop-line-preserved
loop-line-preserved c =
    let lines = c.args.lines.now in
    let i = c.loop-line.line-index in
    given_next (drive_in lines) lines i (line.Version 0) (map drive_told c.loop-line.plans.items) (drive_in lines (get_or lines i (line.Version 0))) (map drive_told c.add_planned.new.plans.items) c.loop-line-test.true c.loop-line.invariant refl
    c.in_ok-add_planned.ensures

pub returns : goal.returns
returns c = given_all (drive_in c.args.lines.now) c.args.lines.now c.loop-line.line-index (map drive_told c.loop-line.plans.items) c.loop-line-test.false c.loop-line.invariant
