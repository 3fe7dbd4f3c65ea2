use Rattle.std.proofs.Common.{◌≡◌, ℕ, ◌<◌, ◌&&◌}
use Rattle.aim_geometry.specs.Bounded.{some_below}
use Rattle.aim_geometry.specs.Rects.{tile_at}
use Rattle.aim_layout.specs.Policies.{has_lane}
use Rattle.aim_layout.specs.LaneTiles.{in_lane_tiles}
use Rattle.aim_policies.specs.Claimed.{is_other}
use Rattle.aim_policies.proofs.claims.claimed_rows.Given as goal

abbrev pub invariant-loop-lane : goal.invariant-loop-lane
invariant-loop-lane l =
    (row col : ℕ) → row < 64 → col < 64 → tile_at l.rows row col ≡ some_below l.lane (λ k. is_other l.fn.except k && has_lane l.lanes k && in_lane_tiles l.layout k row col)
