use Rattle.std.proofs.Common.{◌≡◌, Some, refl, sym, ap, ◌∙◌}
use Rattle.std.proofs.lemmas.Option.{get_or_from_slice_get}
use Rattle.aim_geometry.specs.declared.ground.Grid.{Grid}
use Rattle.aim_layout.specs.Intersection.{Intersection}
use Rattle.aim_sheets.specs.Pools.{Stock}
use Rattle.aim_turnstile.specs.Models.{TurnstileModel, new_pass}
use Rattle.aim_grid.specs.BookSetting.{BookSetting}
use Rattle.aim_grid.specs.declared.seats.Seats.{Seats}
use Rattle.aim_grid.specs.Making.{held}
use Rattle.aim_grid.proofs.Steps.{one_taken, read_seats}
use Rattle.aim_grid.proofs.Zips.{same_some}
use Rattle.aim_grid.proofs.making.Crossings.leg.Goals as goal

pub take-pass-requires : goal.take-pass-requires
take-pass-requires c =
    let n = c.requires.new in
    let read = read_seats c.args.self.now.seats.items c.args.planned.now.crossing n.there c.index_mut.result.now n.at c.index_mut.ensures.value in
    record { held = (new_pass n.manager c.args.planned.now.vehicle, ap (λ (s : Seats). held s c.args.planned.now.vehicle) (sym read) ∙ n.new) }

pub returns-clause-leg : goal.returns-clause-leg
returns-clause-leg c =
    let n = c.requires.new in
    let read = read_seats c.args.self.now.seats.items c.args.planned.now.crossing n.there c.index_mut.result.now n.at c.index_mut.ensures.value in
    let manager : c.index.result.now ≡ n.manager = c.index.ensures ∙ get_or_from_slice_get c.args.self.now.managers.items c.args.planned.now.crossing n.manager c.index.result.now n.stands in
    let pool = c.in_ok-pool.ensures in
    record {
      manager = n.manager;
      stands = n.stands;
      crossing = refl;
      plan_is = c.same_plan.ensures;
      pass = same_some (sym c.take-pass.ensures.pass ∙ ap (λ (s : Seats). held s c.args.planned.now.vehicle) (sym read) ∙ n.new);
      sheets = ap (λ (s : Stock). s.count) pool;
      room = ap (λ (s : Stock). s.room) pool ∙ ap (λ (g : Grid). g.spans) (c.grid-spans.ensures.grid ∙ c.ground.ensures.grid) ∙ ap (λ (i : Intersection). i.grid.spans) c.layout.ensures
          ∙ ap (λ (m : TurnstileModel BookSetting). m.setting.layout.grid.spans) manager;
    }

pub returns-clause-seats : goal.returns-clause-seats
returns-clause-seats c =
    let n = c.requires.new in
    let read = read_seats c.args.self.now.seats.items c.args.planned.now.crossing n.there c.index_mut.result.now n.at c.index_mut.ensures.value in
    one_taken c.args.self.now.seats.items c.args.planned.now.vehicle c.args.planned.now.crossing c.index_mut.result.now c.take-pass.new.self (n.at ∙ ap (λ (s : Seats). Some s) read) c.take-pass.ensures.rest
