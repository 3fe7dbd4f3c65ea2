use Rattle.std.proofs.Common.{Some, sym, ap, ◌∙◌, refl, subst}
use Rattle.std.proofs.lemmas.Option.{get_or_from_slice_get}
use Rattle.aim_grid.specs.Travels.{IsTravellerOf, TakesTurn}
use Rattle.aim_grid.specs.declared.travellers.Traveller.TheInside.{Inside}
use Rattle.aim_grid.specs.contracts.travellers.Traveller.{the_view}
use Rattle.aim_grid.proofs.travellers.Traveller.ride.Goals as goal

pub returns : goal.returns
returns g c =
    let managers = c.args.managers.now in
    let manager = c.index-managers-self.result in
    let own = subst (λ t. IsTravellerOf managers t) (sym c.self.view_is) c.requires.ready.own in
    let same = c.index-managers-self.is ∙ get_or_from_slice_get managers c.self.inside.crossing own.manager manager own.stands in
    let rode : Inside = record { alloc = c.self.inside.alloc; vehicle = c.self.inside.vehicle; over = c.self.inside.over; crossing = c.self.inside.crossing; agent = c.turn.new.self; waiting = c.self.inside.waiting } in
    subst (λ t. TakesTurn managers c.args.step t (the_view rode)) c.self.view_is (record {
      manager = manager;
      stands = own.stands ∙ ap (λ m. Some m) (sym same);
      rest = refl;
      went = c.turn.ensures;
    })
