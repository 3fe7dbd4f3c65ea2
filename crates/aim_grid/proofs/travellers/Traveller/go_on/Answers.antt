use Rattle.std.proofs.Common.{◌≡◌, ◌<◌, List, ◌∷◌, [], ◌++◌, length, refl, sym, ap, ◌∙◌, subst}
use Rattle.aim_agents.specs.Agents.{AgentModel}
use Rattle.aim_grid.specs.Models.{LegModel, TravellerModel}
use Rattle.aim_grid.specs.Rode.{IsBegun}
use Rattle.aim_grid.proofs.Along.{first_out}
use Rattle.aim_grid.proofs.travellers.Traveller.go_on.Goals as goal

pub returns : goal.returns
returns c =
    let view = c.self.view_is in
    let waiting = c.self.inside.waiting.items in
    let next : LegModel = record { crossing = c.crossing.inside.crossing; plan = c.crossing.inside.plan; pass = c.crossing.inside.pass; pool = c.crossing.inside.pool } in
    let same : next ≡ c.remove.result = c.crossing.view_is in
    let waits : c.args.self.now.waiting ≡ c.self.inside.waiting.items = ap (λ (t : TravellerModel). t.waiting) (sym view) in
    let some : 0 < length c.self.inside.waiting.items = subst (λ (w : List LegModel). 0 < length w) waits c.requires.some in
    let out = first_out c.self.inside.waiting.items c.remove.new.self.items c.remove.result some c.remove.ensures.value c.remove.ensures.items in
    let made = c.new_agent-agent.ensures in
    let begun : IsBegun c.args.step next c.new_agent-agent.result = record {
      new = made.new;
      plan_is = made.plan_is ∙ c.plan_behind.ensures;
      up = made.up;
      down = made.down;
      pass_is = made.pass_is;
      room_is = made.room_is;
    } in
    let through = c.replace-through.ensures.value in
    let was = c.replace.ensures.value ∙ c.swap_memo.ensures.other in
    let driver = c.into_parts-driver.ensures.driver ∙ ap (λ (a : AgentModel). a.driver) was in
    let pass = c.into_parts-driver.ensures.pass ∙ ap (λ (a : AgentModel). a.pass) was in
    record {
      next = next;
      rest = c.remove.new.self.items;
      waited = waits ∙ out ∙ (λ i. sym same i ∷ c.remove.new.self.items);
      vehicle = ap (λ (t : TravellerModel). t.vehicle) view;
      over = c.push_reserved.ensures.items ∙ (λ i. c.self.inside.over.items ++ (through i, driver i, pass i) ∷ [])
          ∙ ap (λ (t : TravellerModel). t.over ++ (t.crossing, t.agent.driver, t.agent.pass) ∷ []) view;
      crossing = c.replace-through.ensures.after;
      agent = subst (λ (a : AgentModel). IsBegun c.args.step next a) (sym (c.replace.ensures.after ∙ c.swap_memo.ensures.same)) begun;
      waiting = refl;
    }
