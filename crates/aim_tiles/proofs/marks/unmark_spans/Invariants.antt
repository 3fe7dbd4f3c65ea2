use Rattle.std.proofs.Common.{◌≡◌, ◌+◌, ◌≤◌, ◌&&◌, not, true, take}
use Rattle.aim_geometry.specs.Cells.{Cell}
use Rattle.aim_sheets.specs.Spans.{in_spans}
use Rattle.aim_tiles.specs.Cells.{in_box}
use Rattle.aim_tiles.specs.Pages.{has_mark}
use Rattle.aim_tiles.proofs.marks.unmark_spans.Given as goal

abbrev pub invariant-loop-span : goal.invariant-loop-span
invariant-loop-span g l = record {
  size : l.pages.size ≡ l.fn.pages.size;
  horizon : l.pages.horizon ≡ l.fn.pages.horizon;
  marks : (cell : Cell) → in_box l.fn.pages.size l.fn.pages.horizon l.now cell ≡ true
      → has_mark l.pages.words.items.items l.fn.pages.size l.fn.pages.horizon cell ≡ (has_mark l.fn.pages.words.items.items l.fn.pages.size l.fn.pages.horizon cell && not (in_spans (take l.span-index l.spans) cell));
  cost : l.steps ≤ l.fn.steps + l.span-index;
  counted : l.fn.steps ≤ l.steps;
}
