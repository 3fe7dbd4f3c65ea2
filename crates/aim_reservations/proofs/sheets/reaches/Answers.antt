use Rattle.aim_reservations.proofs.SpanSteps.{reaches_last, reaches_none}
use Rattle.aim_reservations.proofs.sheets.reaches.Goals as goal

pub returns-in-Some : goal.returns-in-Some
returns-in-Some c = rw c.spans.ensures.spans at (reaches_last c.spans.result.now c.args.step c.in-Some.span.now c.spans.ensures.rising c.spans.ensures.marked c.in-Some.ensures.value)

pub returns-in-None : goal.returns-in-None
returns-in-None c = rw c.spans.ensures.spans at (reaches_none c.spans.result.now c.args.step c.in-None.ensures.value)
