-- The grid of tiles on the ground.
use Rattle.std.specs.Prelude.{ℕ, ◌+◌, ◌-◌, ◌*◌, ◌/◌, Bool, ◌&&◌, ◌||◌, nat_lt, nat_le, ◌==◌}
use Rattle.aim_geometry.specs.declared.ground.Grid.{Grid}
use Rattle.aim_geometry.specs.declared.stations.Station.{Station}

-- the side of a tile
abbrev pub tile_of : Grid → ℕ
tile_of g = g.side / g.n

-- whether the closed interval from i * tile to (i + 1) * tile meets the closed interval from x - half to x + half
abbrev pub meets : ℕ → ℕ → ℕ → ℕ → Bool
meets tile half i x = nat_le (i * tile) (x + half) && nat_le x ((i + 1) * tile + half)

-- Whether this is a tile of the grid whose closed square meets the closed square of that half side round the station.
-- All sets of tiles are made of these, so each has tiles of the grid alone.
abbrev pub is_touched : Grid → ℕ → Station → ℕ → ℕ → Bool
is_touched g half s row col =
    nat_lt row g.n && nat_lt col g.n && meets (tile_of g) half col s.x && meets (tile_of g) half row s.y

-- whether the tile lies at the border
abbrev pub is_edge : Grid → ℕ → ℕ → Bool
is_edge g row col = row == 0 || row == g.n - 1 || col == 0 || col == g.n - 1
