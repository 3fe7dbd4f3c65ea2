use Rattle.std.proofs.Common.{ap, sym, ◌∙◌}
use Rattle.aim_mail.specs.Slips.{telling_slate}
use Rattle.aim_mail.proofs.Responses.{starts, parts, tells_as}
use Rattle.aim_mail.proofs.slip.Slip.open.Goals as goal

pub bounded_with-requires-clause-rule : goal.bounded_with-requires-clause-rule
bounded_with-requires-clause-rule g c = starts

pub another-other-requires-clause-rule : goal.another-other-requires-clause-rule
another-other-requires-clause-rule g c = parts _ _ (ap (λ v. v.puts) c.hear_first.ensures.heard) (ap (λ v. v.hears) c.hear_first.ensures.heard) (ap (λ v. v.ready) c.hear_first.ensures.heard)

pub returns-clause-inlet : goal.returns-clause-inlet
returns-clause-inlet g c =
    let s = c.another-other.ensures.channel in
    let e = c.another-other.ensures.rule in
    λ i. record {
      table = (s.2.0 ∙ sym s.0.0) i;
      key = (s.2.1 ∙ sym s.0.1) i;
      first = (ap (λ u. u.first) e.1 ∙ sym (ap (λ u. u.first) e.0)) i;
      heard = (ap (λ u. u.heard) e.1 ∙ ap (λ u. u.heard) c.hear_first.ensures.heard) i;
    }

pub hear_first-requires-clause-told : goal.hear_first-requires-clause-told
hear_first-requires-clause-told g c = let e = c.send_until.ensures.rule in e ∙ ap (λ u. telling_slate u.first) (sym e)

pub send_until-requires-clause-rule : goal.send_until-requires-clause-rule
send_until-requires-clause-rule g c = (tells_as _ _ _ _ c.in-Ok.ensures.3, λ _ _ _ _. tt)
