use Rattle.std.proofs.Common.{◌≡◌, ℕ, ◌<◌, ◌&&◌, false}
use Rattle.aim_geometry.specs.Bounded.{some_below}
use Rattle.aim_layout.specs.Policies.{has_lane}
use Rattle.aim_layout.specs.Building.{share_tile}
use Rattle.aim_layout.proofs.builders.Builder.has_bad_lanes.Given as goal

abbrev pub invariant-loop-lane : goal.invariant-loop-lane
invariant-loop-lane l = (k : ℕ) → k < l.lane → (has_lane l.lanes k && some_below k (λ b. has_lane l.lanes b && share_tile l.self k b)) ≡ false
