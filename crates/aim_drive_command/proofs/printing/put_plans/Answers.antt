use Rattle.std.proofs.Common.{◌-◌, ◌+◌, ◌++◌, ap, ◌∙◌, arith, append-nil}
use Rattle.aim_drive_command.proofs.Printed.{plans_text, no_plans, one_printed}
use Rattle.aim_drive_command.proofs.printing.put_plans.Goals as goal

pub loop-vehicle-preserved : goal.loop-vehicle-preserved
loop-vehicle-preserved c =
    ap (λ t. t ++ plans_text (c.loop-vehicle.vehicle + 1) (c.args.count - (c.loop-vehicle.vehicle + 1)) c.draw-lead.new.random) c.in_ok-put_line.ensures
    ∙ one_printed c.loop-vehicle.out.items _ c.loop-vehicle.vehicle c.args.count c.loop-vehicle.random c.draw-lead.new.random c.loop-vehicle-test.true c.draw-lead.ensures.drawn c.draw-lead.ensures.rest
    ∙ c.loop-vehicle.invariant

pub returns : goal.returns
returns c =
    let over = no_plans c.loop-vehicle.vehicle (c.args.count - c.loop-vehicle.vehicle) c.loop-vehicle.random (omega (arith, c.loop-vehicle-test.false)) in
    rw (over, append-nil c.loop-vehicle.out.items) at c.loop-vehicle.invariant
