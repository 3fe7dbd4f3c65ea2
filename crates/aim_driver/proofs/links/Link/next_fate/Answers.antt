use Rattle.std.proofs.Common.{◌≡◌, length, subst, ◌∙◌, arith}
use Rattle.aim_driver.specs.declared.links.Fate.TheVariants as fate
use Rattle.aim_driver.specs.Links.{LinkModel, fate_at}
use Rattle.aim_driver.proofs.LinkLemmas.{fate_within, fate_behind}
use Rattle.aim_driver.proofs.links.Link.next_fate.Goals as goal

pub returns-then-place-len : goal.returns-then-place-len
returns-then-place-len g c =
    subst (λ (l : LinkModel g.row.T.Denot). c.index.result.now ≡ fate_at l.fates (length l.sent)) c.self.view_is
    (fate_within c.self.inside.fates.items c.len-place.result (length c.self.inside.sent.items) c.index.result.now (c.len-place.ensures ∙ c.self.inside.sent.ok.0) (omega (arith, c.self.inside.fates.ok.0)) c.index.ensures)

pub returns-else-place-len : goal.returns-else-place-len
returns-else-place-len g c =
    subst (λ (l : LinkModel g.row.T.Denot). fate.Deliver ≡ fate_at l.fates (length l.sent)) c.self.view_is
    (fate_behind c.self.inside.fates.items c.len-place.result (length c.self.inside.sent.items) (c.len-place.ensures ∙ c.self.inside.sent.ok.0) (omega (arith, c.self.inside.fates.ok.0)))
