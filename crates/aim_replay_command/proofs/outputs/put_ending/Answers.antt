use Rattle.std.proofs.Common.{ap}
use Rattle.aim_script.specs.declared.decisions.Decision.{Decision}
use Rattle.aim_script.specs.Decided.{printed}
use Rattle.aim_replay_command.proofs.EndLemmas.{cause_second, puts_first, puts_second, puts_same}
use Rattle.aim_replay_command.proofs.outputs.put_ending.Goals as goal

pub returns-in-Err-clause-puts : goal.returns-in-Err-clause-puts
returns-in-Err-clause-puts g c before lines = puts_first _ _ _ _ _ _ _ _ (c.in-Err.ensures.puts g.P.Spelling.spelled before lines)

pub returns-in-Ok-clause-puts : goal.returns-in-Ok-clause-puts
returns-in-Ok-clause-puts g c before lines =
    let w = g.P.Spelling.spelled in
    puts_second _ _ _ _ _ _ _ _ _ _ _ (c.in-Ok.ensures.puts w before lines) (puts_same _ _ _ _ _ _ _ _ (ap (λ (d : Decision). printed (w.last_text d)) c.decision.ensures) c.put_last.ensures.puts)

pub returns-in-Err-clause-cause : goal.returns-in-Err-clause-cause
returns-in-Err-clause-cause g c = let cause = c.in-Err.ensures.cause g.P.Spelling.spelled in record { memory = cause.memory; write = cause.write; later = cause.later }

pub returns-in-Ok-clause-cause : goal.returns-in-Ok-clause-cause
returns-in-Ok-clause-cause g c = cause_second g.P.Spelling.spelled _ _ (g.K.Sink.held c.args.sink.now) _ _ _ _ _ _ (c.in-Ok.ensures.cause g.P.Spelling.spelled) c.put_last.ensures.puts
