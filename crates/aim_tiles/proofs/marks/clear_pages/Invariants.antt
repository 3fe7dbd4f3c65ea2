use Rattle.std.proofs.Common.{◌≡◌, ◌+◌, ◌*◌, ◌&&◌, nat_le, true}
use Rattle.aim_geometry.specs.Cells.{Cell}
use Rattle.aim_tiles.specs.Cells.{in_box}
use Rattle.aim_tiles.specs.Pages.{has_mark}
use Rattle.aim_tiles.proofs.marks.clear_pages.Given as goal

abbrev pub invariant-loop-gone : goal.invariant-loop-gone
invariant-loop-gone g l = record {
  size : l.pages.size ≡ l.fn.pages.size;
  horizon : l.pages.horizon ≡ l.fn.pages.horizon;
  marks : (cell : Cell) → in_box l.fn.pages.size l.fn.pages.horizon l.now cell ≡ true
      → has_mark l.pages.words.items.items l.fn.pages.size l.fn.pages.horizon cell ≡ (has_mark l.fn.pages.words.items.items l.fn.pages.size l.fn.pages.horizon cell && nat_le (l.now + l.gone) cell.step);
  cost : l.steps ≡ l.fn.steps + l.fn.pages.size * l.gone;
}
