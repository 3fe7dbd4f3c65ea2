use Rattle.std.proofs.Common.{◌≡◌, ◌≤◌, ◌+◌, ◌*◌, ◌&&◌, ℕ, ◌<◌, get_or, length, take}
use Rattle.std.specs.Prelude.{filter}
use Rattle.aim_geometry.specs.Cells.{Cell}
use Rattle.aim_sheets.specs.declared.spans.Span.{Span}
use Rattle.aim_sheets.specs.Spans.{in_spans}
use Rattle.aim_shards.specs.Cuts.{is_beside, lies_at, one}
use Rattle.aim_shards.proofs.Pushed.{AreBefore}
use Rattle.aim_shards.proofs.cuts.Corner.part.Given as goal

abbrev pub invariant-loop-span : goal.invariant-loop-span
invariant-loop-span l = record {
  cells : (cell : Cell) → in_spans l.part.spans cell ≡ (in_spans (take l.span-index l.span-items) cell && lies_at l.self.half (2 * one l.self.down + one l.self.right) cell);
  count : length l.part.spans ≤ length (filter (is_beside l.self.half l.self.down) (take l.span-index l.span-items));
  room : length (filter (is_beside l.self.half l.self.down) l.span-items) ≤ l.part.room;
  all : l.span-items ≡ l.sheet.spans;
  last : (k : ℕ) (d : Span) → l.span-index ≤ k → k < length l.span-items → AreBefore (get_or l.span-items k d).step (get_or l.span-items k d).row l.part.spans;
}
