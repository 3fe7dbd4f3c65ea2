use Rattle.std.proofs.Common.{◌≡◌, ℕ, ◌<◌, ◌&&◌, false}
use Rattle.aim_layout.specs.Policies.{has_lane}
use Rattle.aim_layout.specs.Building.{share_tile}
use Rattle.aim_layout.proofs.builders.Builder.meets_earlier.Given as goal

abbrev pub invariant-loop-other : goal.invariant-loop-other
invariant-loop-other l = (k : ℕ) → k < l.other → (has_lane l.lanes k && share_tile l.self l.lane k) ≡ false
