-- The steps of the cells of spans.
-- No public clause cites it: only contracts of private functions.
use Rattle.std.specs.Prelude.{◌≡◌, ℕ, ◌≤◌, true, false, List}
use Rattle.aim_geometry.specs.Cells.{Cell}
use Rattle.aim_sheets.specs.declared.spans.Span.{Span}
use Rattle.aim_sheets.specs.Spans.{in_spans}

-- some cell is of the step or of a later one
abbrev pub Reaches : List Span → ℕ → Type 0
Reaches spans step = (c : Cell) × (in_spans spans c ≡ true) × (step ≤ c.step)

-- the step is the least one of a cell, or 0 where there is no cell
pub record IsFirstStep (spans : List Span) (step : ℕ) : Type 0 where
  pub least : (c : Cell) → in_spans spans c ≡ true → step ≤ c.step
  pub reached : (c : Cell) → in_spans spans c ≡ true → (d : Cell) × (in_spans spans d ≡ true) × (d.step ≡ step)
  pub none : ((c : Cell) → in_spans spans c ≡ false) → step ≡ 0
