use Rattle.aim_line_session.proofs.QuietLemmas.{quiet_header, quiet_set}
use Rattle.aim_replay.proofs.stages.Stage.take.Goals as goal

pub returns-in-Header-clause-memory : goal.returns-in-Header-clause-memory
returns-in-Header-clause-memory g c before st is = quiet_header before c.in-Header.header (rw c.in-Header.is at st)

pub returns-in-Begin-clause-memory : goal.returns-in-Begin-clause-memory
returns-in-Begin-clause-memory g c before st is = let set = rw c.in-Begin.is at st in quiet_set before c.in-Begin.setting set.0
