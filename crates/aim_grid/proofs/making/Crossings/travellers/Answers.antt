use Rattle.std.proofs.Common.{◌≡◌, ◌≢◌, List, ◌+◌, ◌<◌, length, map, take, sym, ◌∙◌, subst, arith}
use Rattle.std.specs.Prelude.{All, Contains}
use Rattle.std.specs.List.{AllZip}
use Rattle.aim_grid.specs.Rode.{Managers}
use Rattle.aim_grid.specs.Models.{TravellerModel}
use Rattle.aim_grid_script.specs.declared.routes.PlannedLeg.{PlannedLeg}
use Rattle.aim_grid.specs.Runs.{legs_for}
use Rattle.aim_grid.specs.Making.{AllKeep, AreSetOut, HasNew, IsMadeLeg, legs_of_all, seat_of, vehicles_of}
use Rattle.aim_grid.proofs.Gathering.{keep_more, made_own, new_for, set_out_more, set_out_same, some_made}
use Rattle.aim_grid.proofs.making.Crossings.travellers.Goals as goal

pub loop-planned-preserved-then-has_set_out : goal.loop-planned-preserved-then-has_set_out
loop-planned-preserved-then-has_set_out c =
    let i = c.loop-planned.invariant in
    let lt : c.loop-planned.planned-index < length c.args.legs.now = omega arith in
    record {
      managers = i.managers;
      out = set_out_same c.args.self.now.managers.items c.args.legs.now c.loop-planned.planned-index c.planned-item.result c.loop-planned.travellers.items lt c.planned-item.is
          (subst (λ (ts : List TravellerModel). Contains (vehicles_of ts) c.planned-item.result.vehicle) c.deref.ensures.value (c.has_set_out.ensures.yes c.if-has_set_out.true)) i.out;
      keeps = i.keeps;
    }

pub legs_of-requires-clause-new : goal.legs_of-requires-clause-new
legs_of-requires-clause-new c =
    let i = c.loop-planned.invariant in
    let none = subst (λ (ts : List TravellerModel). All (λ (t : TravellerModel). t.vehicle ≢ c.planned-item.result.vehicle) ts) c.deref.ensures.value (c.has_set_out.ensures.no c.if-has_set_out.false) in
    subst (λ (ms : Managers). All (λ (p : PlannedLeg). p.vehicle ≡ c.planned-item.result.vehicle → HasNew ms c.loop-planned.self.seats.items p) c.args.legs.now) (sym i.managers)
    (new_for c.args.self.now.managers.items c.args.self.now.seats.items c.args.legs.now c.requires.ready c.loop-planned.self.seats.items c.loop-planned.travellers.items c.planned-item.result.vehicle i.keeps none)

pub new-requires-clause-some : goal.new-requires-clause-some
new-requires-clause-some c =
    let i = c.loop-planned.invariant in
    let lt : c.loop-planned.planned-index < length c.args.legs.now = omega arith in
    some_made c.loop-planned.self.managers.items c.args.legs.now c.loop-planned.planned-index c.planned-item.result c.in_ok-own.own.items lt c.planned-item.is c.in_ok-own.ensures.legs

pub new-requires-clause-legs : goal.new-requires-clause-legs
new-requires-clause-legs c =
    let i = c.loop-planned.invariant in
    made_own c.args.self.now.managers.items c.args.self.now.seats.items c.args.legs.now c.requires.ready c.planned-item.result.vehicle c.in_ok-own.own.items
    (subst (λ (ms : Managers). AllZip (IsMadeLeg ms) (legs_for c.planned-item.result.vehicle c.args.legs.now) c.in_ok-own.own.items) i.managers c.in_ok-own.ensures.legs)

pub loop-planned-preserved : goal.loop-planned-preserved
loop-planned-preserved c =
    let i = c.loop-planned.invariant in
    let lt : c.loop-planned.planned-index < length c.args.legs.now = omega arith in
    let none = subst (λ (ts : List TravellerModel). All (λ (t : TravellerModel). t.vehicle ≢ c.planned-item.result.vehicle) ts) c.deref.ensures.value (c.has_set_out.ensures.no c.if-has_set_out.false) in
    let made = subst (λ (ms : Managers). AllZip (IsMadeLeg ms) (legs_for c.planned-item.result.vehicle c.args.legs.now) c.in_ok-own.own.items) i.managers c.in_ok-own.ensures.legs in
    let t = c.in_ok-new.field-0 in
    let out = c.in_ok-new.ensures in
    record {
      managers = c.legs_of.ensures.managers ∙ i.managers;
      out = subst (λ (ts : List TravellerModel). AreSetOut c.args.self.now.managers.items c.args.legs.now (take (c.loop-planned.planned-index + 1) c.args.legs.now) ts) (sym c.in_ok-push.ensures.items)
          (set_out_more c.args.self.now.managers.items c.args.legs.now c.loop-planned.planned-index c.planned-item.result c.loop-planned.travellers.items c.in_ok-own.own.items t lt c.planned-item.is none made out i.out);
      keeps = subst (λ (ts : List TravellerModel). AllKeep (map seat_of (legs_of_all c.args.legs.now (vehicles_of ts))) c.args.self.now.seats.items c.legs_of.new.self.seats.items) (sym c.in_ok-push.ensures.items)
          (keep_more c.args.legs.now c.loop-planned.travellers.items t c.planned-item.result.vehicle c.args.self.now.seats.items c.loop-planned.self.seats.items c.legs_of.new.self.seats.items out.vehicle_is i.keeps c.in_ok-own.ensures.seats);
    }
