use Rattle.std.proofs.Common.{Err, ap, arith}
use Rattle.std.proofs.KnownBytes.{Appends-nil}
use Rattle.aim_session_command.proofs.HeldLemmas.{responds_cut, responds_ok}
use Rattle.aim_session_command.proofs.sessions.answer_line.Goals as goal

pub returns-in-Ok : goal.returns-in-Ok
returns-in-Ok g c = record {
  responds = λ taken st going few. responds_ok c.args.number taken _ _ _ _ _ _ _ _ (let f = c.ranges.number in omega (arith, f)) few st going c.in_default.not-NoMemory (c.take.ensures taken st) c.stage.ensures.0 c.stage.ensures.2 c.in-Ok.ensures.ok;
  write = λ is. absurd (cc);
  unread = λ is. cc;
  later = c.in-Ok.ensures.later;
}

pub returns-in-Err-Write : goal.returns-in-Err-Write
returns-in-Err-Write g c = record {
  responds = λ taken st going few. responds_cut c.args.number taken _ _ _ _ _ _ (let f = c.ranges.number in omega (arith, f)) few st going c.in_default.not-NoMemory (c.take.ensures taken st) c.in-Err-Write.ensures.err;
  write = λ is. c.in-Err-Write.ensures.write (ap Err c.in-Err-Write.field-0-is);
  unread = λ is. cc;
  later = c.in-Err-Write.ensures.later;
}

pub returns-in-NoMemory-clause-responds : goal.returns-in-NoMemory-clause-responds
returns-in-NoMemory-clause-responds g c taken st going few = ((c.in-NoMemory.ensures taken st).0, Appends-nil (g.K.Sink.held c.args.sink.now))
