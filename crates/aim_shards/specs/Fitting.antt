-- The sets of rectangles.
use Rattle.std.specs.Prelude.{◌≡◌, ℕ, ◌<◌, List, length, slice_index_or}
use Rattle.aim_geometry.specs.Cells.{Cell}
use Rattle.aim_sheets.specs.Spans.{in_spans}
use Rattle.aim_sheets.specs.Sheets.{Spans}
use Rattle.aim_shards.specs.declared.rectangles.Rectangle.{Rectangle}
use Rattle.aim_shards.specs.Cuts.{spans_at}
use Rattle.aim_shards.specs.Grid.{AreOnGrid}
use Rattle.aim_shards.specs.Rectangles.{in_rectangle}

-- each set has just the cells of its rectangle, and all lie on the grid
pub record AreSheets (n horizon : ℕ) (rectangles : List Rectangle) (sheets : List Spans) : Type 0 where
  pub count : length sheets ≡ length rectangles
  pub cells : (k : ℕ) (d : Rectangle) (cell : Cell) → k < length rectangles → in_spans (spans_at sheets k) cell ≡ in_rectangle (slice_index_or rectangles k d) cell
  pub grid : AreOnGrid n horizon sheets
