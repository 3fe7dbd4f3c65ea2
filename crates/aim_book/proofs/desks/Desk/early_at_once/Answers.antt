use Rattle.std.proofs.Common.{◌≡◌, Option, None, le-ltb, ◌∙◌, sym, drop}
use Rattle.aim_messages.specs.declared.messages.Params.{Params}
use Rattle.aim_messages.specs.declared.replies.Reason.{Reason}
use Rattle.aim_geometry.specs.Bounded.{find_map}
use Rattle.aim_layout.specs.Intersection.{Intersection}
use Rattle.aim_rules.specs.Known.{Known}
use Rattle.aim_rules.specs.Bad.{bad}
use Rattle.aim_book.specs.Asking.{tests_at_once}
use Rattle.aim_book.proofs.AtOnceLemmas.{if_ok}
use Rattle.aim_book.proofs.EarlyLemmas.{early_is}
use Rattle.aim_book.proofs.StepLemmas.{bad_first, soon_first}
use Rattle.aim_book.proofs.desks.Desk.early_at_once.Goals as goal

-- what the tests behind the first two give
abbrev rest : Intersection → Known → Params → Option Reason
rest i k p = find_map (λ test. test i k p) (drop 2 tests_at_once)

pub returns-in-None : goal.returns-in-None
returns-in-None g c =
    let i = c.args.layout.now in
    let p = c.args.params.now in
    let good : bad i p ≡ None = sym c.in_ok-field.ensures.field ∙ c.in-None.is in
    if_ok c.timely_at_once.result
    (λ why at. λ k place tells. sym (early_is i c.args.vehicle place k p c.args.self.now c.now-now.result c.standing-next.result (rest i k p) tells c.now-now.ensures.now c.standing-next.ensures (le-ltb _ _ c.if-now-next.false) good) ∙ at k c.args.vehicle place tells)
    c.timely_at_once.ensures

pub returns-then-now-next : goal.returns-then-now-next
returns-then-now-next g c = λ k place tells.
    sym (soon_first c.args.layout.now c.args.vehicle place k c.args.params.now c.args.self.now c.now-now.result c.standing-next.result tells c.now-now.ensures.now c.standing-next.ensures (rest c.args.layout.now k c.args.params.now) c.if-now-next.true)

pub returns-in-Some : goal.returns-in-Some
returns-in-Some g c = λ k place tells.
    sym (bad_first c.args.layout.now c.args.vehicle place k c.args.params.now c.args.self.now c.now-now.result c.standing-next.result tells c.now-now.ensures.now c.standing-next.ensures (rest c.args.layout.now k c.args.params.now) c.in-Some.field (le-ltb _ _ c.if-now-next.false) (sym c.in_ok-field.ensures.field ∙ c.in-Some.is))
