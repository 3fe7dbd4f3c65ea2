use Rattle.std.proofs.Common.{◌∙◌}
use Rattle.aim_mail.proofs.Tries.{pops_still, came_as}
use Rattle.aim_mail.proofs.waits.receive_until.Goals as goal

pub recv_as-requires-clause-rule : goal.recv_as-requires-clause-rule
recv_as-requires-clause-rule g c =
    let i = c.loop.invariant in
    pops_still g.P.Protocol.holds g.M.Outcome.then g.M.Lesson.fact _ _ _ _ i.1 i.2 c.requires.rule

pub returns-in-Ok-clause-seat : goal.returns-in-Ok-clause-seat
returns-in-Ok-clause-seat g c = c.recv_as.ensures.channel.0

pub returns-in-Ok-clause-rule : goal.returns-in-Ok-clause-rule
returns-in-Ok-clause-rule g c =
    let i = c.loop.invariant in
    came_as g.M.Outcome.then _ _ _ _ i.2 c.in-Ok.ensures.rule

pub loop-preserved : goal.loop-preserved
loop-preserved g c =
    let i = c.loop.invariant in
    let s = c.recv_as.ensures.channel in
    (s.0, s.1 ∙ i.1, c.in_default.ensures.rule.0 ∙ i.2)
