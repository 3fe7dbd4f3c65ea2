use Rattle.std.specs.Io.KnownBytes.{prepend_known}
use Rattle.aim_script.specs.Spellings.{by_words}
use Rattle.aim_session_command.proofs.HeldLemmas.{Between, IsNeeded}
use Rattle.aim_session_command.proofs.sessions.answer_lines.Given as goal

abbrev pub invariant-loop-number : goal.invariant-loop-number
invariant-loop-number g l =
    Between by_words (g.S.Source.left l.fn.source) (prepend_known l.ahead (g.S.Source.left l.source)) (g.K.Sink.held l.fn.sink) (g.K.Sink.held l.sink) l.session l.number (g.S.Source.faults l.fn.source) (g.S.Source.faults l.source) (g.K.Sink.faults l.fn.sink) (g.K.Sink.faults l.sink)
    × IsNeeded by_words g.S.Source.left g.S.Source.last_read l.fn.source l.source
