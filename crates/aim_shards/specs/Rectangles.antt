-- Sets of all tiles of a rectangle in some steps.
use Rattle.std.specs.Prelude.{ℕ, ◌<◌, ◌≤◌, Bool, ◌&&◌, nat_le}
use Rattle.aim_geometry.specs.Cells.{Cell}
use Rattle.aim_shards.specs.declared.rectangles.Rectangle.{Rectangle}

-- whether the number lies between the two
abbrev pub is_between : ℕ → ℕ → ℕ → Bool
is_between low high k = nat_le low k && nat_le k high

-- whether the cell's row, column and step lie in the rectangle's
abbrev pub in_rectangle : Rectangle → Cell → Bool
in_rectangle r cell = is_between r.from r.to cell.step && (is_between r.row0 r.row1 cell.row && is_between r.col0 r.col1 cell.col)

-- the rectangle lies on a grid of n rows and columns, in steps below the horizon
pub record FitsGrid (n horizon : ℕ) (r : Rectangle) : Type 0 where
  pub rows : r.row0 ≤ r.row1
  pub last_row : r.row1 < n
  pub columns : r.col0 ≤ r.col1
  pub last_column : r.col1 < n
  pub steps : r.from ≤ r.to
  pub last_step : r.to < horizon
