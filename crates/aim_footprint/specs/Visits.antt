-- A visitor that is led through the steps of a crossing.
use Rattle.std.specs.Prelude.{ℕ, suc, zero, Bool, ◌≡◌, ◌≢◌, ◌<◌, ◌≤◌, ◌^◌, ◌+◌, List, length, slice_index}
use Rattle.aim_messages.specs.declared.messages.Params.{Params}
use Rattle.aim_geometry.specs.Rects.{tile_at}
use Rattle.aim_layout.specs.Intersection.{Intersection}
use Rattle.aim_rules.specs.Footprint.{in_footprint}
use Rattle.aim_geometry.specs.declared.tiles.TileRect.{TileRect}
use Rattle.aim_footprint.specs.declared.reaches.Reach.{Reach}
use Rattle.aim_footprint.specs.declared.visits.RowRange.{RowRange}
use Rattle.aim_footprint.specs.Windows.{Shows}
use Rattle.aim_footprint.specs.Reaches.{reach_at}

-- the range has the first and the last row whose mask isn't 0
pub record IsRangeOf (masks : List ℕ) (rows : RowRange) : Type 0 where
  pub order : rows.first ≤ rows.last
  pub within : rows.last < 64
  pub first : slice_index masks rows.first ≢ 0
  pub last : slice_index masks rows.last ≢ 0
  pub before : (row : ℕ) → row < rows.first → slice_index masks row ≡ 0
  pub after : (row : ℕ) → rows.last < row → row < 64 → slice_index masks row ≡ 0

-- 64 words of 64 bits, with the tiles of the step's rectangles
pub record ShowsStep (rects : List TileRect) (reaches : List Reach) (k : ℕ) (rows : RowRange) (masks : List ℕ) : Type 0 where
  pub count : length masks ≡ 64
  pub words : (row : ℕ) → slice_index masks row < 2 ^ 64
  pub tiles : Shows masks rects (reach_at reaches k).low ((reach_at reaches k).high + 1)
  pub range : IsRangeOf masks rows

-- 64 words of 64 bits, with just the tiles under the vehicle in crossing step k: bit c of word r is tile (r, c)
pub record IsFootprint (i : Intersection) (p : Params) (fast : Bool) (extra k : ℕ) (rows : RowRange) (masks : List ℕ) : Type 0 where
  pub count : length masks ≡ 64
  pub words : (row : ℕ) → slice_index masks row < 2 ^ 64
  pub tiles : (row col : ℕ) → row < 64 → col < 64 → tile_at masks row col ≡ in_footprint i p fast extra k row col
  pub range : IsRangeOf masks rows

-- after so many steps, in order, each one a visit with a range and masks that show its step
unfoldable pub Visited : {V : Type 0} → (V → ℕ → RowRange → List ℕ → V → Type 0) → (ℕ → RowRange → List ℕ → Type 0) → ℕ → V → V → Type 0
Visited visits shows zero old new = new ≡ old
Visited {V} visits shows (suc k) old new =
    (mid : V) × (rows : RowRange) × (masks : List ℕ) × Visited visits shows k old mid × shows k rows masks × visits mid k rows masks new
