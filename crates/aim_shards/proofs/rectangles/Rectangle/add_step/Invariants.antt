use Rattle.std.proofs.Common.{◌≡◌, ◌+◌, ◌-◌, ◌≤◌, ◌==◌, ◌&&◌, ◌||◌, length}
use Rattle.aim_geometry.specs.Cells.{Cell}
use Rattle.aim_sheets.specs.Spans.{in_spans}
use Rattle.aim_shards.specs.Rectangles.{is_between}
use Rattle.aim_shards.proofs.Boxes.{is_before}
use Rattle.aim_shards.proofs.Pushed.{AreBefore}
use Rattle.aim_shards.proofs.rectangles.Rectangle.add_step.Given as goal

abbrev pub invariant-loop-row : goal.invariant-loop-row
invariant-loop-row l = record {
  from : l.self.row0 ≤ l.row;
  upto : l.row ≤ l.self.row1 + 1;
  cells : (cell : Cell) → in_spans l.sheet.spans cell ≡ (in_spans l.initial.sheet.spans cell || (cell.step == l.step && (is_before l.self.row0 l.row cell.row && is_between l.self.col0 l.self.col1 cell.col)));
  count : length l.sheet.spans ≤ length l.initial.sheet.spans + (l.row - l.self.row0);
  room : l.sheet.room ≡ l.initial.sheet.room;
  last : AreBefore l.step l.row l.sheet.spans;
}
