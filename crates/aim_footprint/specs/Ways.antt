-- Sides of rectangles that go one way. No public clause cites this.
use Rattle.std.specs.Prelude.{ℕ, ◌<◌, ◌≤◌, ◌+◌, List}
use Rattle.aim_geometry.specs.declared.tiles.TileRect.{TileRect}
use Rattle.aim_footprint.specs.Windows.{rect_at}

-- from each of the first n rectangles to the next the rows rise, or stay
pub record RowsRise (rects : List TileRect) (n : ℕ) : Type 0 where
  pub first : (j : ℕ) → j + 1 < n → (rect_at rects j).row0 ≤ (rect_at rects (j + 1)).row0
  pub last : (j : ℕ) → j + 1 < n → (rect_at rects j).row1 ≤ (rect_at rects (j + 1)).row1

pub record RowsFall (rects : List TileRect) (n : ℕ) : Type 0 where
  pub first : (j : ℕ) → j + 1 < n → (rect_at rects (j + 1)).row0 ≤ (rect_at rects j).row0
  pub last : (j : ℕ) → j + 1 < n → (rect_at rects (j + 1)).row1 ≤ (rect_at rects j).row1

-- from each of the first n rectangles to the next the columns rise, or stay
pub record ColumnsRise (rects : List TileRect) (n : ℕ) : Type 0 where
  pub first : (j : ℕ) → j + 1 < n → (rect_at rects j).col0 ≤ (rect_at rects (j + 1)).col0
  pub last : (j : ℕ) → j + 1 < n → (rect_at rects j).col1 ≤ (rect_at rects (j + 1)).col1

pub record ColumnsFall (rects : List TileRect) (n : ℕ) : Type 0 where
  pub first : (j : ℕ) → j + 1 < n → (rect_at rects (j + 1)).col0 ≤ (rect_at rects j).col0
  pub last : (j : ℕ) → j + 1 < n → (rect_at rects (j + 1)).col1 ≤ (rect_at rects j).col1
