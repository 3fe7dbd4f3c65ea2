use Rattle.std.proofs.Common.{ap}
use Rattle.aim_mail.proofs.Responses.{meets, balances}
use Rattle.aim_mail.proofs.slip.Slip.meet.Goals as goal

pub absorb-requires-clause-rule : goal.absorb-requires-clause-rule
absorb-requires-clause-rule c = meets _ _ _ _ c.self.invariant.1 c.self.invariant.2 (ap (λ v. v.hears) c.inlet.invariant.1)

pub learn_as-requires-clause-rule : goal.learn_as-requires-clause-rule
learn_as-requires-clause-rule c = balances _ _ (ap (λ v. v.puts) c.absorb.ensures.rule) (ap (λ v. v.hears) c.absorb.ensures.rule) (ap (λ v. v.ready) c.absorb.ensures.rule)
