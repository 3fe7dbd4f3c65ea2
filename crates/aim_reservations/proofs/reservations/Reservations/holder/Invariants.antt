use Rattle.std.proofs.Common.{◌≡◌, ℕ, ◌<◌, ◌&&◌, not, false}
use Rattle.std.specs.Prelude.{◌==◌}
use Rattle.aim_geometry.specs.Cells.{cell_at}
use Rattle.aim_reservations.specs.Rows.{is_reserved}
use Rattle.aim_reservations.proofs.reservations.Reservations.holder.Given as goal

abbrev pub invariant-loop-vehicle : goal.invariant-loop-vehicle
invariant-loop-vehicle g l = (w : ℕ) → w < l.vehicle → (not (w == l.except) && is_reserved l.self.rows.items w (cell_at l.step l.row l.col)) ≡ false
