use Rattle.aim_mail.proofs.Posts.{settles}
use Rattle.aim_mail.proofs.post.Intake.settled.Goals as goal

pub learn_as-requires-clause-rule : goal.learn_as-requires-clause-rule
learn_as-requires-clause-rule c = settles _ _ c.self.invariant.2
