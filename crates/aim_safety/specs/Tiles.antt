-- The list of the tiles on which a driver is.
use Rattle.std.specs.Prelude.{◌≡◌, ◌⊎◌, ℕ, ◌<◌, ◌≤◌, List, [], ◌∷◌, map, filter, flat_map, Option, Some, None}
use Rattle.std.specs.List.{range_with_len}
use Rattle.aim_messages.specs.declared.entries.Entry.{Entry}
use Rattle.aim_layout.specs.Intersection.{Intersection}
use Rattle.aim_rules.specs.Footprint.{crossing_steps}
use Rattle.aim_geometry.specs.Cells as rules
use Rattle.aim_rules.specs.Cells.{IsIn}
use Rattle.aim_driver.specs.declared.logs.LogItem.{LogItem}
use Rattle.aim_driver.specs.declared.logs.LogItem.TheVariants as item
use Rattle.aim_safety.specs.declared.cells.Cell.{Cell}
use Rattle.aim_safety.specs.Occupied.{Passage, passage, is_on}

-- a tile in each of some steps
abbrev pub of_tile : ℕ → ℕ → ℕ → ℕ → List rules.Cell
of_tile first count row col = map (λ s. record { row = row; col = col; step = s }) (range_with_len first count)

-- the tiles of a row, from column 0 up to `cols`, each in these steps
abbrev pub of_row : ℕ → ℕ → ℕ → ℕ → List rules.Cell
of_row first count cols row = flat_map (of_tile first count row) (range_with_len 0 cols)

-- the tiles of an n by n grid in some steps, by row, column and step
abbrev pub of_rows : ℕ → ℕ → ℕ → ℕ → List rules.Cell
of_rows first count n rows = flat_map (of_row first count n) (range_with_len 0 rows)

abbrev pub cells_of_passage : Intersection → Option Passage → List rules.Cell
cells_of_passage i None = []
cells_of_passage i (Some x) =
    filter (is_on i x) (of_rows x.step (crossing_steps i x.grant.params x.grant.fast) i.grid.n i.grid.n)

-- the tiles on which the driver is, by row, column and step, each once
abbrev pub occupied_cells : Intersection → List Entry → List LogItem → List rules.Cell
occupied_cells i h log = cells_of_passage i (passage i h log)

-- by row, then by column, then by step
abbrev pub Precedes : rules.Cell → rules.Cell → Type 0
Precedes c d =
    (c.row < d.row) ⊎ ((c.row ≡ d.row) × (c.col < d.col)) ⊎ ((c.row ≡ d.row) × (c.col ≡ d.col) × (c.step < d.step))

-- each cell precedes all that stand behind it
abbrev pub IsRising : List rules.Cell → Type 0
IsRising [] = Unit {0}
IsRising (c ∷ cs) = ((d : rules.Cell) → IsIn d cs → Precedes c d) × IsRising cs

-- what a cell of the code is
abbrev pub cell_of : Cell → rules.Cell
cell_of c = record { row = c.row; col = c.col; step = c.step }

-- each step at which the driver entered is at most that one
abbrev pub EntersBy : ℕ → List LogItem → Type 0
EntersBy most [] = Unit {0}
EntersBy most (item.Sent step m ∷ xs) = EntersBy most xs
EntersBy most (item.Got step seq r ∷ xs) = EntersBy most xs
EntersBy most (item.Entered step id ∷ xs) = (step ≤ most) × EntersBy most xs
