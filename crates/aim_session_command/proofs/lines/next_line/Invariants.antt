use Rattle.aim_session_command.proofs.LineLemmas.{Taking}
use Rattle.aim_session_command.proofs.lines.next_line.Given as goal

abbrev pub invariant-loop-count : goal.invariant-loop-count
invariant-loop-count g l = Taking g.S.Source.left g.S.Source.last_read g.S.Source.faults l.fn.source l.source l.fn.ahead l.ahead l.line.items l.count
