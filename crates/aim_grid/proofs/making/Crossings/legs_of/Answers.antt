use Rattle.std.proofs.Common.{◌≡◌, ◌<◌, length, sym, ◌∙◌, subst, arith}
use Rattle.aim_grid.specs.Rode.{Managers}
use Rattle.aim_grid.specs.Making.{HasNew, IsMadeLeg}
use Rattle.aim_grid.proofs.Steps.{kept_more, leg_new, made_more}
use Rattle.aim_grid.proofs.making.Crossings.legs_of.Goals as goal

pub leg-requires-clause-new : goal.leg-requires-clause-new
leg-requires-clause-new c =
    let i = c.loop-planned.invariant in
    let lt : c.loop-planned.planned-index < length c.args.legs.now = omega arith in
    let own : c.planned-item.result.vehicle ≡ c.args.vehicle = omega arith in
    subst (λ (ms : Managers). HasNew ms c.loop-planned.self.seats.items c.planned-item.result) (sym i.managers)
    (leg_new c.args.self.now.managers.items c.args.self.now.seats.items c.loop-planned.self.seats.items c.args.vehicle c.args.legs.now c.loop-planned.planned-index c.planned-item.result c.requires.new c.requires.apart lt c.planned-item.is own i.keeps)

pub loop-planned-preserved : goal.loop-planned-preserved
loop-planned-preserved c =
    let i = c.loop-planned.invariant in
    let lt : c.loop-planned.planned-index < length c.args.legs.now = omega arith in
    let own : c.planned-item.result.vehicle ≡ c.args.vehicle = omega arith in
    record {
      managers = c.leg.ensures.managers ∙ i.managers;
      made = made_more c.args.self.now.managers.items c.args.vehicle c.args.legs.now c.loop-planned.planned-index c.planned-item.result c.loop-planned.own.items c.push.new.self.items c.in_ok-leg.field-0 lt c.planned-item.is own c.in_ok-push.ensures.items i.made
          (subst (λ (ms : Managers). IsMadeLeg ms c.planned-item.result c.in_ok-leg.field-0) i.managers c.in_ok-leg.ensures.leg);
      keeps = kept_more c.args.vehicle c.args.legs.now c.loop-planned.planned-index c.planned-item.result c.args.self.now.seats.items c.loop-planned.self.seats.items c.leg.new.self.seats.items lt c.planned-item.is own i.keeps c.in_ok-leg.ensures.seats;
    }
