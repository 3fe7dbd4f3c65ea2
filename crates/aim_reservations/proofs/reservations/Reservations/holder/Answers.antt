use Rattle.std.proofs.Common.{◌≡◌, ℕ, Bool, ◌<◌, ◌&&◌, not, arith, length, true, refl, sym}
use Rattle.std.specs.Prelude.{◌==◌}
use Rattle.std.proofs.lemmas.Bool.{and_from, ne_eqb}
use Rattle.aim_geometry.specs.Cells.{cell_at}
use Rattle.aim_geometry.proofs.BoundedLemmas.{least_below_at, least_below_none}
use Rattle.aim_reservations.specs.Rows.{is_reserved}
use Rattle.aim_reservations.proofs.reservations.Reservations.holder.Goals as goal

pub returns-then-has_cell : goal.returns-then-has_cell
returns-then-has_cell g c =
    let test : ℕ → Bool = λ w. not (w == c.args.except) && is_reserved c.args.self.now.rows.items w (cell_at c.args.step c.args.row c.args.col) in
    let l : c.loop-vehicle.vehicle < length c.args.self.now.rows.items = omega (arith, c.loop-vehicle-test.true, c.len-vehicle-end.ensures) in
    let here : test c.loop-vehicle.vehicle ≡ true = and_from _ _ (rw (ne_eqb _ _ c.if-vehicle-except.true) refl) (sym c.if-has_cell.ensures) in
    sym (least_below_at (length c.args.self.now.rows.items) test c.loop-vehicle.vehicle l c.loop-vehicle.invariant here)

pub returns : goal.returns
returns g c =
    let test : ℕ → Bool = λ w. not (w == c.args.except) && is_reserved c.args.self.now.rows.items w (cell_at c.args.step c.args.row c.args.col) in
    sym (least_below_none (length c.args.self.now.rows.items) test (λ w l. c.loop-vehicle.invariant w (omega (arith, c.loop-vehicle-test.false, c.len-vehicle-end.ensures))))
