use Rattle.std.proofs.Common.{◌∙◌, arith}
use Rattle.aim_shards.proofs.Steps.{draws_as, looks_as}
use Rattle.aim_shards.proofs.Walks.{whole, queued_is, turn_came}
use Rattle.aim_shards.proofs.turns.enter.Goals as goal

pub fetch_add-ticket-requires : goal.fetch_add-ticket-requires
fetch_add-ticket-requires g c =
    (c.requires.desk.0, omega (arith, c.requires.quadrant, c.requires.desk.1), draws_as _ _ _ _ _ _ _ c.requires.works.0.0 _ _ _ _ c.requires.quadrant c.requires.works.1 (whole _ c.requires.works.0.1))

pub load-serving-requires : goal.load-serving-requires
load-serving-requires g c =
    let d = c.fetch_add-ticket.ensures in
    let i = c.loop.invariant in
    (i.0 ∙ d.0 ∙ c.requires.desk.0, omega (arith, c.requires.quadrant, c.requires.desk.1), looks_as _ _ _ _ _ _ d.2.ticket _ c.requires.works.0.0 _ _ _ _ c.requires.quadrant (i.2 ∙ queued_is c.requires.works.0.1 d.2))

pub returns-then-serving-ticket-clause-seat : goal.returns-then-serving-ticket-clause-seat
returns-then-serving-ticket-clause-seat g c =
    let d = c.fetch_add-ticket.ensures in
    let i = c.loop.invariant in
    (c.load-serving.ensures.0 ∙ i.0 ∙ d.0, c.load-serving.ensures.1 ∙ i.1 ∙ d.1)

pub returns-then-serving-ticket-clause-came : goal.returns-then-serving-ticket-clause-came
returns-then-serving-ticket-clause-came g c = turn_came c.fetch_add-ticket.ensures.2 c.loop.invariant.2 c.load-serving.ensures.2 c.if-serving-ticket.true
