use Rattle.aim_reservations.proofs.SpanSteps.{first_is, first_none}
use Rattle.aim_reservations.proofs.sheets.first_step.Goals as goal

pub returns-in-Some : goal.returns-in-Some
returns-in-Some c = rw c.spans.ensures.spans at (first_is c.spans.result.now c.in-Some.span.now c.spans.ensures.rising c.spans.ensures.marked c.in-Some.ensures.value)

pub returns-in-None : goal.returns-in-None
returns-in-None c = rw c.spans.ensures.spans at (first_none c.spans.result.now c.in-None.ensures.value)
