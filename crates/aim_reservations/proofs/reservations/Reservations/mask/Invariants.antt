use Rattle.std.proofs.Common.{◌≡◌, ℕ}
use Rattle.aim_geometry.specs.Bounded.{some_below}
use Rattle.aim_geometry.specs.Cells.{cell_at}
use Rattle.aim_geometry.specs.Rects.{has_bit}
use Rattle.aim_reservations.specs.Rows.{is_reserved}
use Rattle.aim_reservations.proofs.reservations.Reservations.mask.Given as goal

abbrev pub invariant-loop-vehicle : goal.invariant-loop-vehicle
invariant-loop-vehicle g l = (col : ℕ) → has_bit l.mask col ≡ some_below l.vehicle (λ w. is_reserved l.self.rows.items w (cell_at l.step l.row col))
