use Rattle.std.proofs.Common.{◌≡◌, ℕ, ◌<◌, length}
use Rattle.aim_geometry.specs.Ground.{is_touched}
use Rattle.aim_geometry.specs.Rects.{in_rect, IsRect}
use Rattle.aim_footprint.specs.Windows.{rect_at}
use Rattle.aim_footprint.specs.Fills.{station_at}
use Rattle.aim_footprint.proofs.fills.fill_rects.Given as goal

abbrev pub invariant-loop-j : goal.invariant-loop-j
invariant-loop-j l = record {
  count : length l.rects ≡ length l.stations;
  rects : (i : ℕ) → i < l.j → IsRect 64 (rect_at l.rects i);
  exact : (i row col : ℕ) → i < l.j → in_rect (rect_at l.rects i) row col ≡ is_touched l.ground.grid l.half (station_at l.stations i) row col;
}
