use Rattle.aim_mail.proofs.Posts.{notes}
use Rattle.aim_mail.proofs.post.Intake.note.Goals as goal

pub another-requires-clause-rule : goal.another-requires-clause-rule
another-requires-clause-rule c = notes _ _ c.self.invariant.2
