-- Where the cells of spans lie.
use Rattle.std.specs.Prelude.{◌≡◌, ℕ, ◌<◌, true, List}
use Rattle.aim_sheets.specs.declared.spans.Span.{Span}
use Rattle.aim_geometry.specs.Cells.{Cell}
use Rattle.aim_sheets.specs.Spans.{in_spans}
use Rattle.aim_tiles.specs.Cells.{in_range}

-- the rows and columns of the spans' cells are below the size
abbrev pub AreTiles : ℕ → List Span → Type 0
AreTiles size spans = (cell : Cell) → in_spans spans cell ≡ true → (cell.row < size) × (cell.col < size)

-- the steps of the spans' cells are among those from now on up to the horizon
abbrev pub AreAhead : ℕ → ℕ → List Span → Type 0
AreAhead now horizon spans = (cell : Cell) → in_spans spans cell ≡ true → in_range now horizon cell.step ≡ true
