use Rattle.std.proofs.Common.{ap, ◌∙◌}
use Rattle.crossbeam_channel.specs.Claims.{view}
use Rattle.aim_mail.specs.Post.{sent_more}
use Rattle.aim_mail.proofs.Posts.{sends_as}
use Rattle.aim_mail.proofs.post.send.Goals as goal

pub send_until-requires-clause-rule : goal.send_until-requires-clause-rule
send_until-requires-clause-rule g c =
    let v = view c.args.pass.now in
    (sends_as _ _ v.setting _ v.sent v.got _ c.requires.client c.requires.word, λ _ _ _ _. tt)

pub returns-clause-sent : goal.returns-clause-sent
returns-clause-sent g c = c.send_until.ensures.rule ∙ ap (λ u. sent_more u c.args.letter) c.requires.client
