use Rattle.std.proofs.Common.{◌≡◌, ◌≤◌, ◌+◌, ◌*◌, length, Some, sym, ◌∙◌, rules, subst}
use Rattle.aim_rules.specs.History.{params_of}
use Rattle.aim_book.specs.Costs.{starts_tried}
use Rattle.aim_book.proofs.StepLemmas.{fresh_asked, fresh_gone}
use Rattle.aim_book.proofs.desks.Desk.answer_fresh.Goals.{in-Request-2, in-Request-2-2}
use Rattle.aim_book.proofs.desks.Desk.answer_fresh.Goals as goal

pub answer_asking-requires-clause-there : goal.answer_asking-requires-clause-there
answer_asking-requires-clause-there g c = c.requires.there

pub returns-in-Request-2-clause-reply : goal.returns-in-Request-2-clause-reply
returns-in-Request-2-clause-reply g c = λ k tells calling.
    let b = c.args.prepared.now.message.body in
    let asks : params_of b ≡ Some c.in-Request-2-1.params = elim c.in-Request-2-1.branch [ in-Request-2 w ↦ search rules | in-Request-2-2 w ↦ search rules ] in
    fresh_asked c.args.layout.now k b c.in-Request-2-1.params c.answer_asking.result (tells.stopped ∙ c.if-self.false) asks (c.answer_asking.ensures.reply k tells (calling c.in-Request-2-1.params asks))

pub returns-in-Request-2-clause-gone : goal.returns-in-Request-2-clause-gone
returns-in-Request-2-clause-gone g c = λ k p tells asks t named.
    let b = c.args.prepared.now.message.body in
    let here : params_of b ≡ Some c.in-Request-2-1.params = elim c.in-Request-2-1.branch [ in-Request-2 w ↦ search rules | in-Request-2-2 w ↦ search rules ] in
    fresh_gone c.args.layout.now b p c.in-Request-2-1.params t.start c.answer_asking.new.prepared here asks (c.answer_asking.ensures.gone k tells t named)

pub returns-in-Request-2-clause-cost : goal.returns-in-Request-2-clause-cost
returns-in-Request-2-clause-cost g c =
    let r = c.args.prepared.now in
    let here : params_of r.message.body ≡ Some c.in-Request-2-1.params = elim c.in-Request-2-1.branch [ in-Request-2 w ↦ search rules | in-Request-2-2 w ↦ search rules ] in
    subst (λ o. c.answer_asking.new.steps ≤ c.args.steps.now + starts_tried c.args.layout.now o * (length r.first.spans + length r.second.spans)) (sym here) c.answer_asking.ensures.cost
