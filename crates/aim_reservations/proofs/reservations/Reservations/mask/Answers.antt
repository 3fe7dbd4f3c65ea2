use Rattle.std.proofs.Common.{sym}
use Rattle.aim_geometry.specs.Cells.{cell_at}
use Rattle.aim_geometry.proofs.Bits.{has_bit_or}
use Rattle.aim_reservations.specs.Rows.{is_reserved}
use Rattle.aim_reservations.proofs.RowLemmas.{one_more}
use Rattle.aim_reservations.proofs.reservations.Reservations.mask.Goals as goal

pub loop-vehicle-preserved : goal.loop-vehicle-preserved
loop-vehicle-preserved g c = λ col.
    one_more c.loop-vehicle.vehicle (λ w. is_reserved c.args.self.now.rows.items w (cell_at c.args.step c.args.row col)) _ _ _ (c.loop-vehicle.invariant col) (sym (c.mask_of-mask.ensures col)) (has_bit_or c.loop-vehicle.mask c.mask_of-mask.result col)
