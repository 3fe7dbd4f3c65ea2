use Rattle.std.proofs.Common.{◌≡◌, refl, None, inl, inr}
use Rattle.aim_rules.specs.History.{params_of}
use Rattle.aim_requests.proofs.RequestLemmas.{none_prepared}
use Rattle.aim_requests.proofs.requests.prepare.Goals as goal

pub invariant_of-result : goal.invariant_of-result
invariant_of-result c =
    let none : params_of c.args.message.now.body ≡ None = elim c.in-Cancel.is [ inl h ↦ rw h.1 refl | inr h ↦ rw h.1 refl ] in (
      c.args.layout.now,
      none_prepared c.args.layout.now c.args.message.now c.args.first c.args.second none c.requires.first c.requires.second,
    )
