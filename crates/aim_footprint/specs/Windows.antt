-- A part of a list of rectangles, and the tiles in them.
use Rattle.std.specs.Prelude.{ℕ, Bool, ◌≡◌, ◌<◌, ◌≤◌, ◌-◌, true, List, length, get_or, min, max}
use Rattle.std.specs.List.{list_any, slice_range}
use Rattle.aim_geometry.specs.declared.tiles.TileRect.{TileRect}
use Rattle.aim_geometry.specs.Rects.{in_rect, in_rows, IsRect, tile_at}
use Rattle.aim_footprint.specs.declared.windows.TileWindow.{TileWindow}

-- the rectangle with that place in the list
abbrev pub rect_at : List TileRect → ℕ → TileRect
rect_at rects j = get_or rects j (record { row0 = 0; row1 = 0; col0 = 0; col1 = 0 })

-- none of the rectangles is empty
abbrev pub AreRects : List TileRect → Type 0
AreRects rects = (j : ℕ) → j < length rects → IsRect 64 (rect_at rects j)

-- A tile in two of the rectangles is in all between, and the rows of some neighbours lie between those of the first
-- and the last of them.
pub record AreSteady (rects : List TileRect) : Type 0 where
  pub between : (i j k row col : ℕ) → i ≤ j → j ≤ k → k < length rects → in_rect (rect_at rects i) row col ≡ true →
      in_rect (rect_at rects k) row col ≡ true → in_rect (rect_at rects j) row col ≡ true
  pub hull : (low next j row : ℕ) → low ≤ j → j < next → next ≤ length rects → in_rows (rect_at rects j) row ≡ true →
      (min (rect_at rects low).row0 (rect_at rects (next - 1)).row0 ≤ row) × (row ≤ max (rect_at rects low).row1 (rect_at rects (next - 1)).row1)

-- whether the tile is in one of the rectangles from low up to, not including, next
abbrev pub is_under : List TileRect → ℕ → ℕ → ℕ → ℕ → Bool
is_under rects low next row col = list_any (λ q. in_rect q row col) (slice_range rects low next)

-- the rows have just the tiles of those rectangles
abbrev pub Shows : List ℕ → List TileRect → ℕ → ℕ → Type 0
Shows rows rects low next = (row col : ℕ) → row < 64 → col < 64 → tile_at rows row col ≡ is_under rects low next row col

-- the window's rows have just the tiles of its rectangles
pub record IsWindow (rects : List TileRect) (w : TileWindow) : Type 0 where
  pub order : w.low < w.next
  pub within : w.next ≤ length rects
  pub shows : Shows w.rows rects w.low w.next
