use Rattle.std.proofs.Common.{ap, Err}
use Rattle.aim_replay_command.proofs.EndLemmas.{came_stop, came_cut, came_whole, settled_cut, settled_stop}
use Rattle.aim_replay_command.proofs.session.replay_script.Goals as goal

pub returns-in-Err-clause-came : goal.returns-in-Err-clause-came
returns-in-Err-clause-came g c = came_stop g.P.Spelling.spelled _ _ _ _ _ _ c.in-Err.ensures.ran

pub returns-in-Ok-put-clause-came : goal.returns-in-Ok-put-clause-came
returns-in-Ok-put-clause-came g c = rw c.decision-decision.ensures (came_whole g.P.Spelling.spelled _ _ _ _ _ _ _ c.in-Ok.ensures.ran (λ before lines. (c.in-Ok-put.ensures.puts before lines).ok))

pub returns-clause-came : goal.returns-clause-came
returns-clause-came g c = rw c.after_cut.ensures (came_cut g.P.Spelling.spelled _ _ c.in-Err-put.why _ _ _ _ _ c.in-Ok.ensures.ran (λ before lines. (c.in-Err-put.ensures.puts before lines).err) (λ is. c.in-Err-put.ensures.cause.memory (ap Err is)))

pub returns-in-Err-clause-settled : goal.returns-in-Err-clause-settled
returns-in-Err-clause-settled g c = settled_stop c.in-Err.stop _ (λ is. c.in-Err.ensures.asked (ap Err is))

pub returns-clause-settled : goal.returns-clause-settled
returns-clause-settled g c = rw c.after_cut.ensures (settled_cut c.in-Err-put.why _)
