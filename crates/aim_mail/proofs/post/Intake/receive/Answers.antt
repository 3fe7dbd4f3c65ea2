use Rattle.aim_mail.proofs.Posts.{gets}
use Rattle.aim_mail.proofs.post.Intake.receive.Goals as goal

pub receive_until-requires-clause-rule : goal.receive_until-requires-clause-rule
receive_until-requires-clause-rule g c = (gets _ _ c.self.invariant.2, λ _ _ _ _. tt)
