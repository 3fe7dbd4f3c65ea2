use Rattle.std.proofs.Common.{◌≡◌, ℕ, ◌<◌, false}
use Rattle.aim_layout.specs.Policies.{has_lane}
use Rattle.aim_policies.proofs.lanes.least_lane.Given as goal

abbrev pub invariant-loop-lane : goal.invariant-loop-lane
invariant-loop-lane l = (w : ℕ) → w < l.lane → has_lane l.lanes w ≡ false
