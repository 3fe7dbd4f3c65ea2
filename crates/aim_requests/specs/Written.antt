-- How far the cells of a trial are written. No public clause cites this.
use Rattle.std.specs.Prelude.{ℕ, Bool, ◌≡◌, ◌≤◌, ◌+◌, ◌-◌, ◌&&◌, min, nat_lt, List, length}
use Rattle.aim_messages.specs.declared.messages.Params.{Params}
use Rattle.aim_geometry.specs.declared.tiles.TileRect.{TileRect}
use Rattle.aim_geometry.specs.Cells.{cell_at}
use Rattle.aim_layout.specs.Intersection.{Intersection}
use Rattle.aim_sheets.specs.declared.spans.Span.{Span}
use Rattle.aim_sheets.specs.Spans.{in_spans}
use Rattle.aim_rules.specs.Cells.{in_cells}
use Rattle.aim_footprint.specs.declared.reaches.Reach.{Reach}
use Rattle.aim_footprint.specs.declared.windows.TileWindow.{TileWindow}
use Rattle.aim_requests.specs.Counts.{spans_before}
use Rattle.aim_requests.specs.Moves.{MayMove}
use Rattle.aim_requests.specs.Rows.{AreBefore}

-- The spans have just the cells of the trial in the steps before t, counted from its edge buffer on, and neither window
-- has come further than step t needs.
pub record IsWritten (i : Intersection) (p : Params) (fast : Bool) (rects : List TileRect) (reaches : List Reach) (outer inner : TileWindow) (spans : List Span) (t : ℕ) : Type 0 where
  pub outer_may : MayMove rects reaches outer (t - (i.times.edge + i.times.edge)) (min (t + i.times.edge - i.times.edge) (length reaches - 1))
  pub inner_may : MayMove rects reaches inner (t - (i.times.edge + i.times.late)) (min (t + i.times.early - i.times.edge) (length reaches - 1))
  pub cells : (s r c : ℕ) → in_spans spans (cell_at s r c) ≡ (nat_lt s (p.arrive + t - i.times.edge) && in_cells i p fast (record { row = r; col = c; step = s }))
  pub count : length spans ≡ spans_before i p fast (p.arrive + t - i.times.edge)
  pub before : AreBefore spans (p.arrive + t - i.times.edge) 0
  pub start : i.times.edge ≤ p.arrive + t
