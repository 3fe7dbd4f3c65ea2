use Rattle.std.proofs.Common.{ap, ◌∙◌}
use Rattle.crossbeam_channel.specs.Claims.{view}
use Rattle.aim_mail.specs.Post.{heeded}
use Rattle.aim_mail.proofs.Posts.{heeds_as, begun_as}
use Rattle.aim_mail.proofs.post.Port.heed.Goals as goal

pub absorb-requires-clause-rule : goal.absorb-requires-clause-rule
absorb-requires-clause-rule c = heeds_as _ _ _ _ _ _ _ _ _ _ c.self.invariant.1 c.note.invariant.1

pub learn_as-requires-clause-rule : goal.learn_as-requires-clause-rule
learn_as-requires-clause-rule c = begun_as _ _ _ _ _ _ (c.absorb.ensures.rule ∙ ap (λ u. heeded u (view c.note.inside.pass)) c.self.invariant.1)
