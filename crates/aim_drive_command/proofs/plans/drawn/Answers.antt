use Rattle.std.proofs.Common.{◌-◌, ◌+◌, ◌++◌, map, ap, ◌∙◌, arith, append-nil}
use Rattle.aim_drive_script.specs.Scripts.{drive_told}
use Rattle.aim_drive_command.proofs.Drawing.{drives_from, no_drives, one_drawn}
use Rattle.aim_drive_command.proofs.plans.drawn.Goals as goal

pub loop-vehicle-preserved : goal.loop-vehicle-preserved
loop-vehicle-preserved c =
    let i = c.loop-vehicle.invariant in
    let p = c.push_reserved.ensures in record {
      count = omega (arith, p.len, i.count);
      room = omega (arith, p.capacity, i.room);
      drives =
          ap (λ ps. map drive_told ps ++ drives_from (c.loop-vehicle.vehicle + 1) (c.args.count - (c.loop-vehicle.vehicle + 1)) c.plan.new.random) p.items
          ∙ one_drawn c.loop-vehicle.plans.items c.plan.result c.loop-vehicle.vehicle c.args.count c.loop-vehicle.random c.plan.new.random c.loop-vehicle-test.true c.plan.ensures.plan c.plan.ensures.rest
          ∙ i.drives;
    }

pub returns : goal.returns
returns c =
    let over = no_drives c.loop-vehicle.vehicle (c.args.count - c.loop-vehicle.vehicle) c.loop-vehicle.random (omega (arith, c.loop-vehicle-test.false)) in
    rw (over, append-nil (map drive_told c.loop-vehicle.plans.items)) at c.loop-vehicle.invariant.drives
