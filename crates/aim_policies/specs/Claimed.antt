-- The tiles of several lanes.
use Rattle.std.specs.Prelude.{ℕ, Bool, true, ◌&&◌, ◌==◌, not, length, Option, Some, None}
use Rattle.aim_geometry.specs.Bounded.{some_below}
use Rattle.aim_layout.specs.Intersection.{Intersection}
use Rattle.aim_layout.specs.Policies.{has_lane}
use Rattle.aim_layout.specs.LaneTiles.{in_lane_tiles}

-- whether the lane is another than the one that may be excepted
abbrev pub is_other : Option ℕ → ℕ → Bool
is_other None lane = true
is_other (Some except) lane = not (lane == except)

-- whether the tile is one of a lane of the set, other than the one that may be excepted
abbrev pub is_tile_of : Intersection → ℕ → Option ℕ → ℕ → ℕ → Bool
is_tile_of i lanes except row col =
    some_below (length i.lanes) (λ lane. is_other except lane && has_lane lanes lane && in_lane_tiles i lane row col)
