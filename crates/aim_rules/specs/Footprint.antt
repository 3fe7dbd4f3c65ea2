-- The footprint of a vehicle in a step of its crossing: the tiles of the grid that it covers with its buffers.
use Rattle.std.specs.Prelude.{ℕ, ◌+◌, ◌-◌, ◌*◌, ◌/◌, Bool, nat_lt, List, length, unwrap_or}
use Rattle.std.specs.List.{list_any, slice_range}
use Rattle.aim_messages.specs.declared.messages.Params.{Params}
use Rattle.aim_geometry.specs.Bounded.{ceil_div, least_below}
use Rattle.aim_geometry.specs.declared.stations.Station.{Station}
use Rattle.aim_geometry.specs.Ground.{is_touched}
use Rattle.aim_layout.specs.Intersection.{Intersection, stations}
use Rattle.aim_rules.specs.Motion.{front}

-- the length of the vehicle's path
abbrev pub path_length : Intersection → Params → ℕ
path_length i p = (length (stations i p.lane p.turn) - 1) * i.grid.spacing

-- The number of crossing steps: the least k at which the vehicle's rear is past the path's end. The front
-- moves on by the first speed at least in each step, so such a k stands below the bound.
abbrev pub crossing_steps : Intersection → Params → Bool → ℕ
crossing_steps i p fast =
    unwrap_or (least_below ((path_length i p + p.length) / p.speed + 2) (λ k. nat_lt (path_length i p + p.length) (front p fast k))) 0

-- the stations that the vehicle covers in crossing step k
abbrev pub covered : Intersection → Params → Bool → ℕ → List Station
covered i p fast k =
    slice_range (stations i p.lane p.turn) ((front p fast k - p.length) / i.grid.spacing)
    (ceil_div (front p fast (k + 1)) i.grid.spacing + 1)

-- whether the tile is in the footprint of crossing step k, with a further buffer
abbrev pub in_footprint : Intersection → Params → Bool → ℕ → ℕ → ℕ → ℕ → Bool
in_footprint i p fast extra k row col =
    list_any (λ s. is_touched i.grid (ceil_div p.width 2 + i.grid.spacing + extra) s row col) (covered i p fast k)
