-- Lane tile sets as rows of bits. No public clause cites this, but for that of `lane_rows`, which cites `HasTilesOf`.
use Rattle.std.specs.Prelude.{◌≡◌, ℕ, ◌<◌, List, [], length}
use Rattle.std.specs.List.{slice_index_or}
use Rattle.aim_geometry.specs.Rects.{tile_at}
use Rattle.aim_layout.specs.Intersection.{Intersection}
use Rattle.aim_layout.specs.LaneTiles.{in_lane_tiles}

-- the rows have the bits of the lane's tiles
abbrev pub HasTilesOf : Intersection → ℕ → List ℕ → Type 0
HasTilesOf i lane rows = (row col : ℕ) → row < 64 → col < 64 → tile_at rows row col ≡ in_lane_tiles i lane row col

-- each lane has its rows
pub record HasTiles (i : Intersection) (tiles : List (List ℕ)) : Type 0 where
  pub count : length tiles ≡ length i.lanes
  pub rows : (lane : ℕ) → lane < length i.lanes → HasTilesOf i lane (slice_index_or tiles lane [])
