use Rattle.std.proofs.Common.{◌-◌}
use Rattle.aim_replay_command.proofs.StepLemmas.{Between}
use Rattle.aim_replay_command.proofs.session.replay_lines.Given as goal

abbrev pub invariant-lines : goal.invariant-lines
invariant-lines g l = Between g.P.Spelling.spelled g.S.Source.left g.S.Source.last_read g.S.Source.faults l.fn.source l.source (g.K.Sink.held l.fn.sink) (g.K.Sink.held l.sink) (g.K.Sink.faults l.fn.sink) (g.K.Sink.faults l.sink) l.reader l.stage l.number

abbrev pub decreases-lines : goal.decreases-lines
decreases-lines g l = 262144 - l.number
