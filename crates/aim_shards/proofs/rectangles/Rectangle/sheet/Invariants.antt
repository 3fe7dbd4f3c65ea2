use Rattle.std.proofs.Common.{◌≡◌, ◌+◌, ◌-◌, ◌*◌, ◌≤◌, ◌&&◌, length}
use Rattle.aim_geometry.specs.Cells.{Cell}
use Rattle.aim_sheets.specs.Spans.{in_spans}
use Rattle.aim_shards.specs.Rectangles.{is_between}
use Rattle.aim_shards.proofs.Boxes.{is_before}
use Rattle.aim_shards.proofs.Pushed.{AreBefore}
use Rattle.aim_shards.proofs.rectangles.Rectangle.sheet.Given as goal

abbrev pub invariant-loop-step : goal.invariant-loop-step
invariant-loop-step l = record {
  from : l.self.from ≤ l.step;
  upto : l.step ≤ l.self.to + 1;
  cells : (cell : Cell) → in_spans l.sheet.spans cell ≡ (is_before l.self.from l.step cell.step && (is_between l.self.row0 l.self.row1 cell.row && is_between l.self.col0 l.self.col1 cell.col));
  count : length l.sheet.spans ≤ (l.step - l.self.from) * l.rows;
  room : l.sheet.room ≡ (l.self.to - l.self.from + 1) * l.rows;
  last : AreBefore l.step l.self.row0 l.sheet.spans;
}
