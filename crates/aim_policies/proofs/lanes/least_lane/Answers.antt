use Rattle.std.proofs.Common.{◌<◌, length, sym, arith}
use Rattle.aim_geometry.proofs.BoundedLemmas.{least_below_at, least_below_none}
use Rattle.aim_layout.specs.Policies.{has_lane}
use Rattle.aim_policies.proofs.lanes.least_lane.Goals as goal

pub returns-then-has_lane : goal.returns-then-has_lane
returns-then-has_lane c =
    let l : c.loop-lane.lane < length c.args.layout.now.lanes = omega (arith, c.loop-lane-test.true, c.lanes-lane-end.ensures.count) in
    sym (least_below_at (length c.args.layout.now.lanes) (has_lane c.args.lanes) c.loop-lane.lane l c.loop-lane.invariant (sym c.if-has_lane.ensures))

pub returns : goal.returns
returns c = sym (least_below_none (length c.args.layout.now.lanes) (has_lane c.args.lanes) (λ w l. c.loop-lane.invariant w (omega (arith, c.loop-lane-test.false, c.lanes-lane-end.ensures.count))))
