use Rattle.std.proofs.Common.{◌∙◌}
use Rattle.aim_mail.proofs.Tries.{pushes_still, sent_as}
use Rattle.aim_mail.proofs.waits.send_until.Goals as goal

pub send_as-requires-clause-rule : goal.send_as-requires-clause-rule
send_as-requires-clause-rule g c =
    let i = c.loop.invariant in
    pushes_still g.P.Protocol.holds g.M.Outcome.then g.M.Lesson.fact _ _ _ _ _ _ _ i.1 i.2 i.3 c.requires.rule

pub loop-preserved : goal.loop-preserved
loop-preserved g c =
    let i = c.loop.invariant in
    let s = c.send_as.ensures.channel in
    let r = c.in-Err.ensures.rule in
    (s.0, s.1 ∙ i.1, r.1 ∙ i.2, c.into_inner-said.ensures ∙ r.0 ∙ i.3)

pub returns-in-Ok-clause-seat : goal.returns-in-Ok-clause-seat
returns-in-Ok-clause-seat g c = c.send_as.ensures.channel.0

pub returns-in-Ok-clause-rule : goal.returns-in-Ok-clause-rule
returns-in-Ok-clause-rule g c =
    let i = c.loop.invariant in
    sent_as g.M.Outcome.then _ _ _ _ _ i.2 i.3 c.in-Ok.ensures.rule
