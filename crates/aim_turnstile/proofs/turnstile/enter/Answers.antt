use Rattle.std.proofs.Common.{◌∙◌}
use Rattle.aim_turnstile.proofs.Enters.{ready, waiting, held, entered}
use Rattle.aim_turnstile.proofs.turnstile.enter.Goals as goal

pub draw-ticket-requires-clause-rests : goal.draw-ticket-requires-clause-rests
draw-ticket-requires-clause-rests g c = (c.args.number, c.requires.rests)

pub wait-requires-clause-waits : goal.wait-requires-clause-waits
wait-requires-clause-waits g c = (c.args.number, waiting c.requires.rests c.draw-ticket.ensures.drew)

pub take-requires-clause-desk : goal.take-requires-clause-desk
take-requires-clause-desk g c = c.wait.ensures.seat.0 ∙ c.draw-ticket.ensures.seat.0 ∙ c.requires.desk.0

pub take-requires-clause-held : goal.take-requires-clause-held
take-requires-clause-held g c = held (ready c.requires.rests c.draw-ticket.ensures.drew) c.wait.ensures.came

pub returns-clause-seat : goal.returns-clause-seat
returns-clause-seat g c =
    let d = c.draw-ticket.ensures.seat in
    let w = c.wait.ensures.seat in
    let t = c.take.ensures.seat in
    (t.0 ∙ w.0 ∙ d.0, t.1 ∙ w.1 ∙ d.1)

pub returns-clause-entered : goal.returns-clause-entered
returns-clause-entered g c = entered c.requires.rests c.draw-ticket.ensures.drew c.wait.ensures.came c.take.ensures.taken.0 c.take.ensures.taken.1
