use Rattle.std.proofs.Common.{ap}
use Rattle.aim_mail.proofs.Responses.{hears}
use Rattle.aim_mail.proofs.slip.Inlet.hear.Goals as goal

pub receive_until-requires-clause-rule : goal.receive_until-requires-clause-rule
receive_until-requires-clause-rule g c = (hears _ _ (ap (λ v. v.hears) c.self.invariant.1) (ap (λ v. v.ready) c.self.invariant.1), λ _ _ _ _. tt)
