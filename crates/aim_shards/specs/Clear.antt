-- Whether cells are taken. No public clause cites this file.
use Rattle.std.specs.Prelude.{◌≡◌, Bool, true, false, List}
use Rattle.aim_sheets.specs.declared.spans.Span.{Span}
use Rattle.aim_geometry.specs.Cells.{Cell}
use Rattle.aim_sheets.specs.Spans.{in_spans}
use Rattle.aim_tiles.specs.Cells.{TakenCells, has_cell}

-- the answer says whether no cell of the spans is taken
abbrev pub IsClear : TakenCells → List Span → Bool → Type 0
IsClear table spans true = (cell : Cell) → in_spans spans cell ≡ true → has_cell table cell ≡ false
IsClear table spans false = (cell : Cell) × (in_spans spans cell ≡ true) × (has_cell table cell ≡ true)
