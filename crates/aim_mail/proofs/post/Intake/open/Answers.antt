use Rattle.std.proofs.Common.{ap, sym, ◌∙◌}
use Rattle.aim_mail.specs.Post.{telling}
use Rattle.aim_mail.proofs.Posts.{begins, tells}
use Rattle.aim_mail.proofs.post.Intake.open.Goals as goal

pub bounded_with-requires-clause-rule : goal.bounded_with-requires-clause-rule
bounded_with-requires-clause-rule g c = begins

pub send_until-requires-clause-rule : goal.send_until-requires-clause-rule
send_until-requires-clause-rule g c = (rw c.in-Ok.ensures.3 (tells _ _ _), λ _ _ _ _. tt)

pub hear_opening-requires-clause-told : goal.hear_opening-requires-clause-told
hear_opening-requires-clause-told g c = let e = c.send_until.ensures.rule in e ∙ ap (λ u. telling u.setting) (sym e)
