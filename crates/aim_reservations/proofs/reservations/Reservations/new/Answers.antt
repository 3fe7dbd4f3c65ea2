use Rattle.aim_reservations.proofs.NewRows.{none_all, none_more}
use Rattle.aim_reservations.proofs.reservations.Reservations.new.Goals as goal

pub loop-preserved : goal.loop-preserved
loop-preserved g c = (none_more c.loop.rows.items c.push_reserved.new.self.items c.loop.counter c.push_reserved.ensures.items c.loop.invariant.0, rw c.push_reserved.ensures.capacity c.loop.invariant.1)

pub returns : goal.returns
returns g c = (none_all c.loop.rows.items c.loop.counter c.args.vehicles c.loop.invariant.0 c.loop.auto.counter-end c.loop-test.false, c.in_ok-new.ensures)
