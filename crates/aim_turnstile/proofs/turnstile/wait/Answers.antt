use Rattle.std.proofs.Common.{◌∙◌, arith}
use Rattle.aim_turnstile.proofs.Steps.{looks_as}
use Rattle.aim_turnstile.proofs.Enters.{comes, stays}
use Rattle.aim_turnstile.proofs.turnstile.wait.Goals as goal

pub load-serving-requires : goal.load-serving-requires
load-serving-requires g c =
    let i = c.loop.invariant in
    let w = c.requires.waits.1 in
    (i.0 ∙ c.requires.desk.0, omega (arith, c.requires.desk.1), looks_as _ _ _ _ _ _ _ w.ticket _ _ _ (i.2 ∙ w.is))

pub returns-then-serving-ticket-clause-seat : goal.returns-then-serving-ticket-clause-seat
returns-then-serving-ticket-clause-seat g c =
    let i = c.loop.invariant in
    let l = c.load-serving.ensures in
    (l.0 ∙ i.0, l.1 ∙ i.1)

pub returns-then-serving-ticket-clause-came : goal.returns-then-serving-ticket-clause-came
returns-then-serving-ticket-clause-came g c =
    comes c.requires.waits.1 c.loop.invariant.2 c.load-serving.ensures.2 c.if-serving-ticket.true

pub loop-preserved : goal.loop-preserved
loop-preserved g c =
    let i = c.loop.invariant in
    let l = c.load-serving.ensures in
    (l.0 ∙ i.0, l.1 ∙ i.1, stays c.requires.waits.1 i.2 l.2 c.if-serving-ticket.false)
