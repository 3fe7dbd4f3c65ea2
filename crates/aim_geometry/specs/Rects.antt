-- Rectangles of tiles, and rows of tiles as bits.
use Rattle.std.specs.Prelude.{ℕ, Bool, ◌&&◌, ◌==◌, ◌≤◌, ◌<◌, nat_le, List, slice_index}
use Rattle.std.specs.Int.{bit_at}
use Rattle.aim_geometry.specs.declared.tiles.TileRect.{TileRect}

-- whether the column is one of the rectangle's
abbrev pub in_columns : TileRect → ℕ → Bool
in_columns q col = nat_le q.col0 col && nat_le col q.col1

-- whether the row is one of the rectangle's
abbrev pub in_rows : TileRect → ℕ → Bool
in_rows q row = nat_le q.row0 row && nat_le row q.row1

abbrev pub in_rect : TileRect → ℕ → ℕ → Bool
in_rect q row col = in_rows q row && in_columns q col

-- a rectangle that is not empty, of a grid of n by n tiles
pub record IsRect (n : ℕ) (q : TileRect) : Type 0 where
  pub rows : q.row0 ≤ q.row1
  pub last_row : q.row1 < n
  pub columns : q.col0 ≤ q.col1
  pub last_column : q.col1 < n

-- whether the bit is set
abbrev pub has_bit : ℕ → ℕ → Bool
has_bit mask col = bit_at mask col == 1

-- whether the tile is one of those whose bits are set in the rows
abbrev pub tile_at : List ℕ → ℕ → ℕ → Bool
tile_at rows row col = has_bit (slice_index rows row) col
