use Rattle.std.proofs.Common.{◌+◌, ◌<◌, length, sym, subst, arith}
use Rattle.aim_grid.specs.Travels.{IsReady, Moves}
use Rattle.aim_grid.specs.Models.{TravellerModel}
use Rattle.aim_grid.proofs.Runs.{turned_none, turned_more, all_turned, item_ready}
use Rattle.aim_grid.proofs.travelling.run_turns.Goals as goal

pub loop-traveller-init : goal.loop-traveller-init
loop-traveller-init g c = turned_none c.args.managers.now c.args.step c.args.travellers.now

pub turn-requires-clause-ready : goal.turn-requires-clause-ready
turn-requires-clause-ready g c κs within =
    let lt : c.loop-traveller.traveller-index < length c.loop-traveller.travellers = omega arith in
    subst (λ (x : TravellerModel). IsReady c.args.managers.now c.args.step x) c.traveller-item.is
    (item_ready c.args.managers.now c.args.step c.loop-traveller.traveller-index c.args.travellers.now c.loop-traveller.travellers c.traveller-item.result
    c.requires.ready c.loop-traveller.invariant lt c.traveller-item.is)

pub loop-traveller-preserved : goal.loop-traveller-preserved
loop-traveller-preserved g c =
    let lt : c.loop-traveller.traveller-index < length c.loop-traveller.travellers = omega arith in
    turned_more c.args.managers.now c.args.step c.loop-traveller.traveller-index c.args.travellers.now c.loop-traveller.travellers c.traveller-item.result c.turn.new.self
    c.loop-traveller.invariant lt c.traveller-item.is
    (subst (λ (a : TravellerModel). Moves c.args.managers.now c.args.step (c.args.step + 1) a c.turn.new.self) (sym c.traveller-item.is) c.turn.ensures)

pub returns : goal.returns
returns g c = all_turned c.args.managers.now c.args.step c.loop-traveller.traveller-index c.args.travellers.now c.loop-traveller.travellers (omega arith) c.loop-traveller.invariant
