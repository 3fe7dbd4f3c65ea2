-- Sheets that a table can claim. No public clause cites it: only the program's own functions.
use Rattle.std.specs.Prelude.{List, All}
use Rattle.aim_sheets.specs.Sheets.{Spans}
use Rattle.aim_tiles.specs.Cells.{TakenCells}
use Rattle.aim_tiles.specs.Sheets.{AreTiles, AreAhead}

abbrev pub IsReady : TakenCells → Spans → Type 0
IsReady table sheet = AreTiles table.size sheet.spans × AreAhead table.current table.horizon sheet.spans

abbrev pub AreReady : TakenCells → List Spans → Type 0
AreReady table sheets = All (IsReady table) sheets
