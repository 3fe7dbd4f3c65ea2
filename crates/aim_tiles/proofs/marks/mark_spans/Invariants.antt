use Rattle.std.proofs.Common.{◌≡◌, ℕ, ◌+◌, ◌*◌, ◌%◌, ◌||◌, true, take}
use Rattle.aim_geometry.specs.Cells.{Cell}
use Rattle.aim_sheets.specs.Spans.{in_spans}
use Rattle.aim_tiles.specs.Cells.{in_box}
use Rattle.aim_tiles.specs.Pages.{has_mark}
use Rattle.aim_tiles.specs.Sheets.{AreAhead}
use Rattle.aim_tiles.proofs.marks.mark_spans.Given as goal

abbrev pub invariant-loop-span : goal.invariant-loop-span
invariant-loop-span g l = record {
  page : l.page ≡ l.step % l.pages.horizon * l.pages.size;
  size : l.pages.size ≡ l.fn.pages.size;
  horizon : l.pages.horizon ≡ l.fn.pages.horizon;
  marks : (now : ℕ) → AreAhead now l.fn.pages.horizon l.spans → (cell : Cell) → in_box l.fn.pages.size l.fn.pages.horizon now cell ≡ true
      → has_mark l.pages.words.items.items l.fn.pages.size l.fn.pages.horizon cell ≡ (has_mark l.fn.pages.words.items.items l.fn.pages.size l.fn.pages.horizon cell || in_spans (take l.span-index l.spans) cell);
  cost : l.steps ≡ l.fn.steps + l.span-index;
}
