use Rattle.std.proofs.Common.{Err, ap, sym, ◌∙◌}
use Rattle.aim_script.specs.Spellings.{by_words}
use Rattle.aim_replay_command.proofs.StepLemmas.{if_settled, if_unsettled}
use Rattle.aim_session_command.proofs.HeldLemmas.{between_less, between_next, between_settled, ended_huge, ended_input, needed_next, runs_end, runs_input, runs_short, runs_stop, runs_unsettled, runs_whole, same_line, same_whole}
use Rattle.aim_session_command.proofs.sessions.answer_lines.Goals as goal

-- the sink has failed
pub returns-then-is_err : goal.returns-then-is_err
returns-then-is_err g c =
    let i = c.loop-number.invariant in
    let s = c.settle_before.ensures in
    record {
      runs = runs_unsettled i.0 _ _ _ s.bytes (if_unsettled c.settle_before.result _ (sym c.is_err.ensures.value ∙ c.if-is_err.true) s.cause.failed) s.cause.later;
      needed = i.1;
      settled = λ is. absurd (cc);
    }

-- the source has failed
pub returns-in-Err-Read : goal.returns-in-Err-Read
returns-in-Err-Read g c =
    let i = c.loop-number.invariant in
    let s = c.settle_before.ensures in
    let b = between_settled i.0 _ _ s.bytes s.cause.later in
    let n = c.in-Err-Read.ensures in
    let e = n.read (ap Err c.in-Err-Read.field-0-is) in
    let gives = rw c.in-Err-Read.field-0-is at n.gives in
    record {
      runs = runs_short b _ _ gives.0 _ e.1 gives.1 e.2 n.later;
      needed = needed_next by_words g.S.Source.left g.S.Source.last_read _ _ _ _ b i.1 n.needed;
      settled = λ _. if_settled c.settle_before.result _ (sym c.is_err.ensures.value ∙ c.if-is_err.false) s.settled e.0;
    }

-- a line is huge
pub returns-in-Err-Huge-clause-runs : goal.returns-in-Err-Huge-clause-runs
returns-in-Err-Huge-clause-runs g c =
    let s = c.settle_before.ensures in
    let b = between_settled c.loop-number.invariant.0 _ _ s.bytes s.cause.later in
    let n = c.in-Err-Huge.ensures in
    let gives = rw c.in-Err-Huge.field-0-is at n.gives in
    runs_end b _ _ _ n.later (ended_huge b _ gives.0 gives.1 gives.2)

pub returns-in-Err-Huge-clause-needed : goal.returns-in-Err-Huge-clause-needed
returns-in-Err-Huge-clause-needed g c =
    let i = c.loop-number.invariant in
    needed_next by_words g.S.Source.left g.S.Source.last_read _ _ _ _ i.0 i.1 c.in-Err-Huge.ensures.needed

-- the input is at its end
pub returns-in-Ok-Nothing-clause-runs : goal.returns-in-Ok-Nothing-clause-runs
returns-in-Ok-Nothing-clause-runs g c =
    let s = c.settle_before.ensures in
    let b = between_settled c.loop-number.invariant.0 _ _ s.bytes s.cause.later in
    let n = c.in-Ok-Nothing.ensures in
    let gives = rw c.in-Ok-Nothing.field-0-is at n.gives in
    runs_end b _ _ _ n.later (ended_input b _ gives.0 gives.1)

pub returns-in-Ok-Nothing-clause-needed : goal.returns-in-Ok-Nothing-clause-needed
returns-in-Ok-Nothing-clause-needed g c =
    let i = c.loop-number.invariant in
    needed_next by_words g.S.Source.left g.S.Source.last_read _ _ _ _ i.0 i.1 c.in-Ok-Nothing.ensures.needed

-- a line without a byte 10
pub returns-in-Err : goal.returns-in-Err
returns-in-Err g c =
    let i = c.loop-number.invariant in
    let s = c.settle_before.ensures in
    let b = between_settled i.0 _ _ s.bytes s.cause.later in
    let n = c.in-Ok-Last.ensures in
    let gives = rw c.in-Ok-Last.field-0-is at n.gives in
    let a = c.in-Err.ensures in
    let r = a.responds b.taken b.stands b.going (between_less b) in
    record {
      runs = runs_stop b _ _ _ _ _ _ _ c.in-Err.stop (same_line _ _ _ _ c.deref.ensures.0 gives.0) r (λ is. a.write (ap Err is)) n.later a.later;
      needed = needed_next by_words g.S.Source.left g.S.Source.last_read _ _ _ _ b i.1 n.needed;
      settled = λ is. absurd (a.unread (ap Err (cc)));
    }

pub returns-in-Ok-true : goal.returns-in-Ok-true
returns-in-Ok-true g c =
    let i = c.loop-number.invariant in
    let s = c.settle_before.ensures in
    let b = between_settled i.0 _ _ s.bytes s.cause.later in
    let n = c.in-Ok-Last.ensures in
    let gives = rw c.in-Ok-Last.field-0-is at n.gives in
    let a = c.in-Ok-true.ensures in
    record {
      runs = runs_whole b _ _ _ _ _ _ _ _ _ c.in-Ok-true.field-0-test (same_line _ _ _ _ c.deref.ensures.0 gives.0) (a.responds b.taken b.stands b.going (between_less b)) c.entries.ensures.1 n.later a.later;
      needed = needed_next by_words g.S.Source.left g.S.Source.last_read _ _ _ _ b i.1 n.needed;
      settled = λ is. absurd (cc);
    }

pub returns-in-Ok-false : goal.returns-in-Ok-false
returns-in-Ok-false g c =
    let i = c.loop-number.invariant in
    let s = c.settle_before.ensures in
    let b = between_settled i.0 _ _ s.bytes s.cause.later in
    let n = c.in-Ok-Last.ensures in
    let gives = rw c.in-Ok-Last.field-0-is at n.gives in
    let a = c.in-Ok-false.ensures in
    record {
      runs = runs_input b _ _ _ _ _ _ _ _ c.in-Ok-false.field-0-test (same_line _ _ _ _ c.deref.ensures.0 gives.0) gives.1 (a.responds b.taken b.stands b.going (between_less b)) n.later a.later;
      needed = needed_next by_words g.S.Source.left g.S.Source.last_read _ _ _ _ b i.1 n.needed;
      settled = λ is. absurd (cc);
    }

-- a line with one
pub returns-in-Err-answer_line : goal.returns-in-Err-answer_line
returns-in-Err-answer_line g c =
    let i = c.loop-number.invariant in
    let s = c.settle_before.ensures in
    let b = between_settled i.0 _ _ s.bytes s.cause.later in
    let n = c.in-Ok-Line.ensures in
    let gives = rw c.in-Ok-Line.field-0-is at n.gives in
    let a = c.in-Err-answer_line.ensures in
    let r = a.responds b.taken b.stands b.going (between_less b) in
    record {
      runs = runs_stop b _ _ _ _ _ _ _ c.in-Err-answer_line.stop (same_line _ _ _ _ c.deref-in-loop-number.ensures.0 gives.0) r (λ is. a.write (ap Err is)) n.later a.later;
      needed = needed_next by_words g.S.Source.left g.S.Source.last_read _ _ _ _ b i.1 n.needed;
      settled = λ is. absurd (a.unread (ap Err (cc)));
    }

pub returns-in-Ok-true-answer_line : goal.returns-in-Ok-true-answer_line
returns-in-Ok-true-answer_line g c =
    let i = c.loop-number.invariant in
    let s = c.settle_before.ensures in
    let b = between_settled i.0 _ _ s.bytes s.cause.later in
    let n = c.in-Ok-Line.ensures in
    let gives = rw c.in-Ok-Line.field-0-is at n.gives in
    let a = c.in-Ok-true-answer_line.ensures in
    record {
      runs = runs_whole b _ _ _ _ _ _ _ _ _ c.in-Ok-true-answer_line.field-0-test (same_line _ _ _ _ c.deref-in-loop-number.ensures.0 gives.0) (a.responds b.taken b.stands b.going (between_less b)) c.entries-in-Ok-true-answer_line.ensures.1 n.later a.later;
      needed = needed_next by_words g.S.Source.left g.S.Source.last_read _ _ _ _ b i.1 n.needed;
      settled = λ is. absurd (cc);
    }

pub loop-number-preserved : goal.loop-number-preserved
loop-number-preserved g c =
    let i = c.loop-number.invariant in
    let s = c.settle_before.ensures in
    let b = between_settled i.0 _ _ s.bytes s.cause.later in
    let n = c.in-Ok-Line.ensures in
    let gives = rw c.in-Ok-Line.field-0-is at n.gives in
    let a = c.in-Ok-false-answer_line.ensures in (
      between_next b _ _ _ _ _ _ _ c.in-Ok-false-answer_line.field-0-test (same_whole _ _ _ _ c.deref-in-loop-number.ensures.0 gives) (a.responds b.taken b.stands b.going (between_less b)) n.later a.later,
      needed_next by_words g.S.Source.left g.S.Source.last_read _ _ _ _ b i.1 n.needed,
    )
