-- Sets on a grid.
use Rattle.std.specs.Prelude.{ℕ, List, All}
use Rattle.aim_sheets.specs.Sheets.{Spans}
use Rattle.aim_tiles.specs.Sheets.{AreTiles, AreAhead}

-- the cells of the sets lie on a grid of n rows and columns, in steps below the horizon
abbrev pub AreOnGrid : ℕ → ℕ → List Spans → Type 0
AreOnGrid n horizon sets = All (λ s. AreTiles n s.spans × AreAhead 0 horizon s.spans) sets
