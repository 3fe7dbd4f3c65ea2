use Rattle.aim_mail.proofs.Responses.{hears_first_as}
use Rattle.aim_mail.proofs.slip.hear_first.Goals as goal

pub pass_over-requires-clause-rule : goal.pass_over-requires-clause-rule
pass_over-requires-clause-rule g c = (hears_first_as _ _ c.requires.told, λ _ _ _ _. tt)
