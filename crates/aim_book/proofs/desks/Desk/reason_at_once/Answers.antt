use Rattle.std.proofs.Common.{◌∙◌, ap, sym}
use Rattle.std.specs.Option.{option_or}
use Rattle.aim_rules.specs.Answer.{first_reason, tests}
use Rattle.aim_book.proofs.AtOnceLemmas.{find_map-take, if_ok}
use Rattle.aim_book.proofs.desks.Desk.reason_at_once.Goals as goal

pub returns-in-Some : goal.returns-in-Some
returns-in-Some g c = λ k place tells.
    let i = c.args.layout.now in
    ap (λ o. option_or o (first_reason i k c.args.params.now)) (sym (c.own_refusal.ensures i k place tells) ∙ c.in-Some.is)

pub returns-in-None : goal.returns-in-None
returns-in-None g c =
    let i = c.args.layout.now in
    if_ok c.early_at_once.result
    (λ why at. λ k place tells. ap (λ o. option_or o (first_reason i k c.args.params.now)) (sym (c.own_refusal.ensures i k place tells) ∙ c.in-None.is) ∙ find_map-take (λ test. test i k c.args.params.now) 5 tests why (at k place tells))
    c.early_at_once.ensures
