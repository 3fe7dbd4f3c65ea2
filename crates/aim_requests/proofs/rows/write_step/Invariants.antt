use Rattle.std.proofs.Common.{◌≡◌, ℕ, ◌+◌, ◌≤◌, ◌||◌, length}
use Rattle.aim_geometry.specs.Cells.{cell_at}
use Rattle.aim_sheets.specs.Spans.{in_spans}
use Rattle.aim_requests.specs.Counts.{count_below}
use Rattle.aim_requests.specs.Rows.{AreBefore, has_shown, in_rows_of}
use Rattle.aim_requests.proofs.rows.write_step.Given as goal

abbrev pub invariant-loop-row : goal.invariant-loop-row
invariant-loop-row l = record {
  cells : (s r c : ℕ) → in_spans l.sheet.spans (cell_at s r c) ≡ (in_spans l.fn.sheet.spans (cell_at s r c) || in_rows_of l.n l.inner l.outer l.step l.first l.row s r c);
  count : length l.sheet.spans ≡ length l.fn.sheet.spans + count_below l.row (has_shown l.n l.inner l.outer l.first);
  before : AreBefore l.sheet.spans l.step l.row;
  fits : length l.sheet.spans ≤ l.sheet.room;
  room : l.sheet.room ≡ l.fn.sheet.room;
}
