use Rattle.aim_replay_command.proofs.LineLemmas.{taken}
use Rattle.aim_replay_command.proofs.session.take_line.Goals as goal

pub returns-in-Ok-clause-taken : goal.returns-in-Ok-clause-taken
returns-in-Ok-clause-taken g c before st = taken g.P.Spelling.spelled before c.args.stage c.args.bytes.now _ _ _ st c.version.ensures c.in-Ok.ensures.line (c.take.ensures.takes before st) (c.take.ensures.makes before st)

pub returns-in-Ok-clause-memory : goal.returns-in-Ok-clause-memory
returns-in-Ok-clause-memory g c before st is without = c.take.ensures.memory before st is
