use Rattle.aim_mail.proofs.Posts.{takes_as}
use Rattle.aim_mail.proofs.post.Intake.take_in.Goals as goal

pub absorb-requires-clause-rule : goal.absorb-requires-clause-rule
absorb-requires-clause-rule c = takes_as _ _ _ _ _ _ _ _ c.self.invariant.2 c.port.invariant.1
