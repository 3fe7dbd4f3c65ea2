use Rattle.aim_replay_command.proofs.EndLemmas.{settled_at, whole_at, ended_at, front_at, read_at, write_at, memory_at, statuses_are}
use Rattle.aim_replay_command.proofs.session.replay.Goals as goal

pub returns-clause-whole : goal.returns-clause-whole
returns-clause-whole g c at = whole_at g.P.Spelling.spelled _ _ _ _ _ _ _ c.status.ensures c.replay_script.ensures.came at

pub returns-clause-ended : goal.returns-clause-ended
returns-clause-ended g c at = ended_at g.P.Spelling.spelled _ _ _ _ _ _ _ c.status.ensures c.replay_script.ensures.came at

pub returns-clause-front : goal.returns-clause-front
returns-clause-front g c at = front_at g.P.Spelling.spelled _ _ _ _ _ _ _ c.status.ensures c.replay_script.ensures.came at

pub returns-clause-short : goal.returns-clause-short
returns-clause-short g c at = c.replay_script.ensures.came.short (read_at _ _ c.status.ensures at)

pub returns-clause-memory : goal.returns-clause-memory
returns-clause-memory g c at without = c.replay_script.ensures.came.memory (memory_at _ _ c.status.ensures at) without

pub returns-clause-read : goal.returns-clause-read
returns-clause-read g c at = c.replay_script.ensures.caused.read (read_at _ _ c.status.ensures at)

pub returns-clause-write : goal.returns-clause-write
returns-clause-write g c at = c.replay_script.ensures.caused.write (write_at _ _ c.status.ensures at)

pub returns-clause-statuses : goal.returns-clause-statuses
returns-clause-statuses g c = statuses_are _ _ c.status.ensures

pub returns-clause-settled : goal.returns-clause-settled
returns-clause-settled g c at = settled_at _ _ _ c.status.ensures c.replay_script.ensures.settled at
