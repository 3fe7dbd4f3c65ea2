-- The tiles of a step: at the border those of one list of rows, inside those of another. No public clause cites this.
use Rattle.std.specs.Prelude.{ℕ, ◌-◌, ◌≡◌, true, Bool, ◌&&◌, ◌||◌, ◌==◌, nat_le, nat_lt, List, All, if◌then◌else◌}
use Rattle.aim_geometry.specs.Bounded.{some_below}
use Rattle.aim_geometry.specs.Rects.{tile_at}
use Rattle.aim_sheets.specs.declared.spans.Span.{Span}
use Rattle.aim_sheets.specs.Spans.{precedes}

-- whether the tile lies at the border of an n by n grid
abbrev pub is_border : ℕ → ℕ → ℕ → Bool
is_border n row col = row == 0 || row == n - 1 || col == 0 || col == n - 1

-- whether the tile is one of the step's
abbrev pub is_shown : ℕ → List ℕ → List ℕ → ℕ → ℕ → Bool
is_shown n inner outer row col = if is_border n row col then tile_at outer row col else tile_at inner row col

-- whether the row has such a tile, from a first row on
abbrev pub has_shown : ℕ → List ℕ → List ℕ → ℕ → ℕ → Bool
has_shown n inner outer first row = nat_le first row && some_below 64 (is_shown n inner outer row)

-- whether a cell is one of those tiles in that step, in the rows from the first up to, not including, next
abbrev pub in_rows_of : ℕ → List ℕ → List ℕ → ℕ → ℕ → ℕ → ℕ → ℕ → ℕ → Bool
in_rows_of n inner outer step first next s row col = step == s && ((nat_le first row && nat_lt row next) && (nat_lt col 64 && is_shown n inner outer row col))

-- all spans come before a step and row
abbrev pub AreBefore : List Span → ℕ → ℕ → Type 0
AreBefore spans step row = All (λ held. precedes held step row ≡ true) spans
