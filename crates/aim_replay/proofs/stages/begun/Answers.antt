use Rattle.aim_line_session.proofs.QuietLemmas.{quiet_begin}
use Rattle.aim_replay.proofs.stages.begun.Goals as goal

pub returns-in-Ok-clause-takes : goal.returns-in-Ok-clause-takes
returns-in-Ok-clause-takes g c before set = rw c.in-Begin.is (c.in-Ok.ensures before set)

pub returns-in-Ok-clause-quiet : goal.returns-in-Ok-clause-quiet
returns-in-Ok-clause-quiet g c before set = rw c.in-Begin.is (quiet_begin before)
