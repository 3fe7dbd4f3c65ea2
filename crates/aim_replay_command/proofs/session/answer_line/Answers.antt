use Rattle.std.proofs.Common.{ap, Err}
use Rattle.std.proofs.KnownBytes.{Appends-nil}
use Rattle.aim_replay_command.proofs.session.answer_line.Goals as goal

pub returns-in-Err-clause-responds : goal.returns-in-Err-clause-responds
returns-in-Err-clause-responds g c before st = (c.in-Err.ensures.taken before st, λ is. c.in-Err.ensures.memory before st (ap Err is), Appends-nil _)

pub returns-in-Ok-put_made-clause-responds : goal.returns-in-Ok-put_made-clause-responds
returns-in-Ok-put_made-clause-responds g c before st =
    let taken = c.in-Ok.ensures.taken before st in
    (taken.0, c.in-Ok.field-0.made, taken.1, c.in-Ok-put_made.ensures.ok)

pub returns-in-Err-put_made-clause-responds : goal.returns-in-Err-put_made-clause-responds
returns-in-Err-put_made-clause-responds g c before st =
    let taken = c.in-Ok.ensures.taken before st in
    (c.in-Ok.field-0.stage, taken.0, c.in-Ok.field-0.made, taken.1, c.in-Err-put_made.ensures.err, λ is. c.in-Err-put_made.ensures.memory (ap Err is))
