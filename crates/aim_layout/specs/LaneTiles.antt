-- The tiles of a lane: those that meet a square round a station of one of its moves.
use Rattle.std.specs.Prelude.{ℕ, Bool, false, ◌||◌, List, Option, Some, None, slice_get}
use Rattle.std.specs.List.{list_any}
use Rattle.aim_geometry.specs.declared.ground.Grid.{Grid}
use Rattle.aim_geometry.specs.declared.stations.Station.{Station}
use Rattle.aim_geometry.specs.Ground.{is_touched}
use Rattle.aim_layout.specs.Intersection.{Intersection, Lane}

-- whether the tile meets the square of the lane tile sets round one of the stations
abbrev pub is_met : Grid → List Station → ℕ → ℕ → Bool
is_met g ss row col = list_any (λ s. is_touched g g.half s row col) ss

-- whether the tile meets the square of the lane tile sets round a station of the path, if it is offered
abbrev pub is_on_path : Intersection → Option (List Station) → ℕ → ℕ → Bool
is_on_path i None row col = false
is_on_path i (Some ss) row col = is_met i.grid ss row col

-- whether the tile meets the square of the lane tile sets round a station of one of the lane's paths
abbrev pub is_on_lane : Intersection → Option Lane → ℕ → ℕ → Bool
is_on_lane i None row col = false
is_on_lane i (Some l) row col = is_on_path i l.left row col || is_on_path i l.straight row col || is_on_path i l.right row col

-- whether the tile is one of the lane's
abbrev pub in_lane_tiles : Intersection → ℕ → ℕ → ℕ → Bool
in_lane_tiles i lane row col = is_on_lane i (slice_get i.lanes lane) row col
