use Rattle.std.proofs.Common.{length, ◌∙◌, arith}
use Rattle.std.proofs.lemmas.Iterator.Adapters.{YieldsList-from_vec}
use Rattle.std.proofs.lemmas.Iterator.Consumers.{YieldsList-turn}
use Rattle.aim_grid.specs.Closing.{all_gone}
use Rattle.aim_grid.proofs.Returning.{traveller_more, traveller_seated}
use Rattle.aim_grid.proofs.making.Crossings.take_back.Goals as goal

pub take_legs-requires : goal.take_legs-requires
take_legs-requires c =
    let gives = c.into_iter-traveller-iterator.ensures.into_iter_gives in
    let t = YieldsList-turn (YieldsList-from_vec {s = c.into_iter-traveller-iterator.result} c.args.travellers.items gives.0 (omega (arith, gives.1))) c.loop-traveller.yielded c.loop-traveller.traveller-iterator c.loop-traveller.yielded_by c.next.result c.next.new.self c.in-Some.traveller c.in-Some.is c.next.ensures.steps in
    record {
      seated = traveller_seated c.args.travellers.items (length c.loop-traveller.yielded) c.in-Some.traveller c.vehicle-vehicle.result c.in_ok-legs.legs.items (all_gone c.loop-traveller.yielded) c.args.self.now.seats.items c.loop-traveller.self.seats.items
          c.requires.seated c.loop-traveller.invariant.gives t.0 t.1 c.vehicle-vehicle.ensures c.in_ok-legs.ensures;
    }

pub loop-traveller-preserved : goal.loop-traveller-preserved
loop-traveller-preserved c = record {
  managers = c.take_legs.ensures.managers ∙ c.loop-traveller.invariant.managers;
  gives = traveller_more c.loop-traveller.yielded c.in-Some.traveller c.vehicle-vehicle.result c.in_ok-legs.legs.items c.args.self.now.seats.items c.loop-traveller.self.seats.items c.take_legs.new.self.seats.items
      c.vehicle-vehicle.ensures c.in_ok-legs.ensures c.loop-traveller.invariant.gives c.in_ok-take_legs.ensures.seats;
}
