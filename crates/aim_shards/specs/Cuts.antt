-- The four quadrants of a grid, and sets that are cut along their borders.
use Rattle.std.specs.Prelude.{◌≡◌, ℕ, ◌+◌, ◌*◌, ◌/◌, ◌<◌, ◌==◌, nat_le, Bool, not, ◌&&◌, if◌then◌else◌, List, [], get_or, length}
use Rattle.aim_sheets.specs.declared.spans.Span.{Span}
use Rattle.aim_geometry.specs.Cells.{Cell}
use Rattle.aim_sheets.specs.Spans.{in_spans}
use Rattle.aim_sheets.specs.Sheets.{Spans}
use Rattle.aim_tiles.specs.Sheets.{AreTiles, AreAhead}
use Rattle.aim_shards.specs.Sets.{Quarters, part, set_at}

abbrev pub one : Bool → ℕ
one b = if b then 1 else 0

-- the first row, and column, of the second half
abbrev pub half_of : ℕ → ℕ
half_of n = (n + 1) / 2

-- the quadrant of a tile, where the second halves begin at this row and column
abbrev pub quadrant_at : ℕ → ℕ → ℕ → ℕ
quadrant_at half row col = 2 * one (nat_le half row) + one (nat_le half col)

abbrev pub lies_at : ℕ → ℕ → Cell → Bool
lies_at half q cell = quadrant_at half cell.row cell.col == q

-- whether the span's row is in the second half, or in the first
abbrev pub is_beside : ℕ → Bool → Span → Bool
is_beside half down span = if down then nat_le half span.row else not (nat_le half span.row)

-- the spans of the set k
abbrev pub spans_at : List Spans → ℕ → List Span
spans_at sheets k = (get_or sheets k (record { spans = []; room = 0 })).spans

-- each set's part in a quadrant has just the set's cells there
pub record AreCut (half : ℕ) (sheets : List Spans) (sets : List Quarters) : Type 0 where
  pub count : length sets ≡ length sheets
  pub cells : (k q : ℕ) (cell : Cell) → q < 4 → in_spans (part (set_at sets k) q) cell ≡ (in_spans (spans_at sheets k) cell && lies_at half q cell)

-- the cells of all sets lie on a grid of n rows and columns, in steps below the horizon
pub record AreWithin (n horizon : ℕ) (sets : List Quarters) : Type 0 where
  pub tiles : (k q : ℕ) → q < 4 → AreTiles n (part (set_at sets k) q)
  pub ahead : (k q : ℕ) → q < 4 → AreAhead 0 horizon (part (set_at sets k) q)
