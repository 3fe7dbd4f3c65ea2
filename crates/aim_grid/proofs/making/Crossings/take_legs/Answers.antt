use Rattle.std.proofs.Common.{◌<◌, length, sym, subst, arith}
use Rattle.std.proofs.Math.ListN.{set}
use Rattle.std.proofs.lemmas.Iterator.Adapters.{YieldsList-from_vec}
use Rattle.std.proofs.lemmas.Iterator.Consumers.{YieldsList-turn}
use Rattle.std.proofs.lemmas.Option.{slice_get_within}
use Rattle.aim_grid.specs.declared.seats.Seats.{Seats}
use Rattle.aim_grid.specs.Closing.{IsBackAt}
use Rattle.aim_grid.proofs.Returning.{gone_over, over_more, over_seated}
use Rattle.aim_grid.proofs.Steps.{one_given, read_seats}
use Rattle.aim_grid.proofs.making.Crossings.take_legs.Goals as goal

pub index_mut-requires : goal.index_mut-requires
index_mut-requires c =
    let gives = c.into_iter-crossing-iterator.ensures.into_iter_gives in
    let t = YieldsList-turn (YieldsList-from_vec {s = c.into_iter-crossing-iterator.result} c.args.legs.items gives.0 (omega (arith, gives.1))) c.loop-crossing.yielded c.loop-crossing.crossing-iterator c.loop-crossing.yielded_by c.next.result c.next.new.self (c.in-Some.crossing, c.in-Some.driver, c.in-Some.pass) c.in-Some.is c.next.ensures.steps in
    let s = over_seated c.args.vehicle c.args.legs.items (length c.loop-crossing.yielded) (c.in-Some.crossing, c.in-Some.driver, c.in-Some.pass) (gone_over c.args.vehicle c.loop-crossing.yielded) c.args.self.now.seats.items c.loop-crossing.self.seats.items
    c.requires.seated c.loop-crossing.invariant.gives t.0 t.1 in
    let l : c.in-Some.crossing < length c.loop-crossing.self.seats.items = slice_get_within c.loop-crossing.self.seats.items c.in-Some.crossing s.there s.at in
    omega arith

pub give-requires : goal.give-requires
give-requires c =
    let gives = c.into_iter-crossing-iterator.ensures.into_iter_gives in
    let t = YieldsList-turn (YieldsList-from_vec {s = c.into_iter-crossing-iterator.result} c.args.legs.items gives.0 (omega (arith, gives.1))) c.loop-crossing.yielded c.loop-crossing.crossing-iterator c.loop-crossing.yielded_by c.next.result c.next.new.self (c.in-Some.crossing, c.in-Some.driver, c.in-Some.pass) c.in-Some.is c.next.ensures.steps in
    let s = over_seated c.args.vehicle c.args.legs.items (length c.loop-crossing.yielded) (c.in-Some.crossing, c.in-Some.driver, c.in-Some.pass) (gone_over c.args.vehicle c.loop-crossing.yielded) c.args.self.now.seats.items c.loop-crossing.self.seats.items
    c.requires.seated c.loop-crossing.invariant.gives t.0 t.1 in
    record { seat = subst (λ (x : Seats). c.args.vehicle < length x.passes.items) (read_seats c.loop-crossing.self.seats.items c.in-Some.crossing s.there c.index_mut.result.now s.at c.index_mut.ensures.value) s.seat }

pub loop-crossing-preserved : goal.loop-crossing-preserved
loop-crossing-preserved c =
    let gives = c.into_iter-crossing-iterator.ensures.into_iter_gives in
    let t = YieldsList-turn (YieldsList-from_vec {s = c.into_iter-crossing-iterator.result} c.args.legs.items gives.0 (omega (arith, gives.1))) c.loop-crossing.yielded c.loop-crossing.crossing-iterator c.loop-crossing.yielded_by c.next.result c.next.new.self (c.in-Some.crossing, c.in-Some.driver, c.in-Some.pass) c.in-Some.is c.next.ensures.steps in
    let s = over_seated c.args.vehicle c.args.legs.items (length c.loop-crossing.yielded) (c.in-Some.crossing, c.in-Some.driver, c.in-Some.pass) (gone_over c.args.vehicle c.loop-crossing.yielded) c.args.self.now.seats.items c.loop-crossing.self.seats.items
    c.requires.seated c.loop-crossing.invariant.gives t.0 t.1 in
    record {
      managers = c.loop-crossing.invariant.managers;
      gives =
          over_more c.args.vehicle c.loop-crossing.yielded (c.in-Some.crossing, c.in-Some.driver, c.in-Some.pass) c.args.self.now.seats.items c.loop-crossing.self.seats.items (set c.loop-crossing.self.seats.items c.in-Some.crossing c.give.new.self)
          c.loop-crossing.invariant.gives
          (one_given c.loop-crossing.self.seats.items c.args.vehicle c.in-Some.crossing c.in-Some.driver.log c.in-Some.pass s.there c.give.new.self s.at
          (subst (λ (x : Seats). IsBackAt c.args.vehicle c.in-Some.driver.log c.in-Some.pass x c.give.new.self) (sym (read_seats c.loop-crossing.self.seats.items c.in-Some.crossing s.there c.index_mut.result.now s.at c.index_mut.ensures.value)) c.in_ok-give.ensures));
    }
