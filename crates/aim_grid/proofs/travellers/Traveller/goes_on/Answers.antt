use Rattle.std.proofs.Common.{◌≡◌, length, sym, ap, ◌∙◌, subst, arith}
use Rattle.std.proofs.lemmas.Bool.{eqb-true}
use Rattle.aim_grid.specs.Acked.{acked}
use Rattle.aim_grid.specs.Models.{TravellerModel}
use Rattle.aim_grid.specs.Travels.{GoesOn}
use Rattle.aim_grid.proofs.Along.{no_legs, in_trouble, goes_by}
use Rattle.aim_grid.proofs.travellers.Traveller.goes_on.Goals as goal

pub returns-then-is_empty : goal.returns-then-is_empty
returns-then-is_empty c =
    let n : c.self.inside.waiting.len ≡ 0 = eqb-true _ _ (sym c.is_empty.ensures ∙ c.if-is_empty.true) in
    let e : length c.self.inside.waiting.items ≡ 0 = omega (arith, c.self.inside.waiting.ok) in
    no_legs c.args.self.now c.self.inside.waiting.items (ap (λ (t : TravellerModel). t.waiting) c.self.view_is) e

pub returns-then-is_some : goal.returns-then-is_some
returns-then-is_some c =
    in_trouble c.args.self.now c.trouble.result (c.trouble.ensures.trouble ∙ ap (λ (t : TravellerModel). t.agent.trouble) c.self.view_is)
    (sym c.is_some.ensures ∙ c.if-is_some.true)

pub returns : goal.returns
returns c =
    let len : c.self.inside.waiting.len ≡ length c.self.inside.waiting.items = omega (arith, c.self.inside.waiting.ok) in
    subst (λ b. GoesOn c.args.self.now b) (sym c.is_some-2.ensures)
    (goes_by c.args.self.now c.self.inside.waiting.items c.self.inside.waiting.len c.trouble.result c.acked_at.result
    (ap (λ (t : TravellerModel). t.waiting) c.self.view_is) len (sym c.is_empty.ensures ∙ c.if-is_empty.false)
    (c.trouble.ensures.trouble ∙ ap (λ (t : TravellerModel). t.agent.trouble) c.self.view_is) (sym c.is_some.ensures ∙ c.if-is_some.false)
    (c.acked_at.ensures ∙ ap acked (c.log.ensures.items ∙ ap (λ (t : TravellerModel). t.agent.driver.log) c.self.view_is)))
