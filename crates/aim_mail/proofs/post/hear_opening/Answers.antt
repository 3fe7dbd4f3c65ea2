use Rattle.aim_mail.proofs.Posts.{hears_opening_as}
use Rattle.aim_mail.proofs.post.hear_opening.Goals as goal

pub pass_over-requires-clause-rule : goal.pass_over-requires-clause-rule
pass_over-requires-clause-rule g c = (hears_opening_as _ _ c.requires.told, λ _ _ _ _. tt)
