use Rattle.std.proofs.Common.{arith}
use Rattle.aim_session_command.proofs.LineLemmas.{needed_then, read_on, rose_behind, takes_last, takes_line, takes_nothing, takes_part, taking_more, taking_start}
use Rattle.aim_session_command.proofs.lines.next_line.Goals as goal

pub loop-count-init : goal.loop-count-init
loop-count-init g c = taking_start g.S.Source.left g.S.Source.last_read g.S.Source.faults _ _ _ c.clear.ensures

-- the source has failed
pub returns-in-Err-clause-gives : goal.returns-in-Err-clause-gives
returns-in-Err-clause-gives g c =
    let i = c.loop-count.invariant in
    (i.part, takes_part g.S.Source.left g.S.Source.last_read g.S.Source.faults _ _ _ _ _ _ _ i _ c.in-Err.ensures.gives)

pub returns-in-Err-clause-read : goal.returns-in-Err-clause-read
returns-in-Err-clause-read g c is =
    let i = c.loop-count.invariant in
    (read_on g.S.Source.left g.S.Source.last_read g.S.Source.faults _ _ _ _ _ _ _ i c.in-Err.ensures.from, c.in-Err.ensures.err, rose_behind _ _ _ i.later c.in-Err.ensures.cause.failed)

pub returns-in-Err-clause-needed : goal.returns-in-Err-clause-needed
returns-in-Err-clause-needed g c = needed_then g.S.Source.left g.S.Source.last_read g.S.Source.faults _ _ _ _ _ _ _ c.loop-count.invariant c.in-Err.ensures.from

pub returns-in-Err-clause-later : goal.returns-in-Err-clause-later
returns-in-Err-clause-later g c = let i = c.loop-count.invariant in omega (arith, i.later, c.in-Err.ensures.cause.later)

-- the input ended
pub returns-in-Ok-None-clause-gives : goal.returns-in-Ok-None-clause-gives
returns-in-Ok-None-clause-gives g c =
    let e = rw c.in-Ok-None.field-0-is at c.in-Ok-None.ensures.gives in
    (takes_nothing g.S.Source.left g.S.Source.last_read g.S.Source.faults _ _ _ _ _ _ _ c.loop-count.invariant _ e.0 c.if-count-eq0.true, e.1)

pub returns-in-Ok-None-clause-needed : goal.returns-in-Ok-None-clause-needed
returns-in-Ok-None-clause-needed g c = needed_then g.S.Source.left g.S.Source.last_read g.S.Source.faults _ _ _ _ _ _ _ c.loop-count.invariant c.in-Ok-None.ensures.from

pub returns-in-Ok-None-clause-later : goal.returns-in-Ok-None-clause-later
returns-in-Ok-None-clause-later g c = let i = c.loop-count.invariant in omega (arith, i.later, c.in-Ok-None.ensures.cause.later)

pub returns-in-Ok-None-2-clause-gives : goal.returns-in-Ok-None-2-clause-gives
returns-in-Ok-None-2-clause-gives g c =
    let e = rw c.in-Ok-None.field-0-is at c.in-Ok-None.ensures.gives in
    (takes_last g.S.Source.left g.S.Source.last_read g.S.Source.faults _ _ _ _ _ _ _ c.loop-count.invariant _ e.0 e.1 (omega (arith, c.if-count-eq0.false)), e.1)

pub returns-in-Ok-None-2-clause-needed : goal.returns-in-Ok-None-2-clause-needed
returns-in-Ok-None-2-clause-needed g c = needed_then g.S.Source.left g.S.Source.last_read g.S.Source.faults _ _ _ _ _ _ _ c.loop-count.invariant c.in-Ok-None.ensures.from

pub returns-in-Ok-None-2-clause-later : goal.returns-in-Ok-None-2-clause-later
returns-in-Ok-None-2-clause-later g c = let i = c.loop-count.invariant in omega (arith, i.later, c.in-Ok-None.ensures.cause.later)

-- the byte 10
pub returns-in-Ok-Some-eq10-clause-gives : goal.returns-in-Ok-Some-eq10-clause-gives
returns-in-Ok-Some-eq10-clause-gives g c =
    let e = rw c.in-Ok-Some-eq10.field-0-is at c.in-Ok-Some-eq10.ensures.gives in
    takes_line g.S.Source.left g.S.Source.last_read g.S.Source.faults _ _ _ _ _ _ _ c.loop-count.invariant _ (rw c.in-Ok-Some-eq10.field-0-0-test at e)

pub returns-in-Ok-Some-eq10-clause-needed : goal.returns-in-Ok-Some-eq10-clause-needed
returns-in-Ok-Some-eq10-clause-needed g c = needed_then g.S.Source.left g.S.Source.last_read g.S.Source.faults _ _ _ _ _ _ _ c.loop-count.invariant c.in-Ok-Some-eq10.ensures.from

pub returns-in-Ok-Some-eq10-clause-later : goal.returns-in-Ok-Some-eq10-clause-later
returns-in-Ok-Some-eq10-clause-later g c = let i = c.loop-count.invariant in omega (arith, i.later, c.in-Ok-Some-eq10.ensures.cause.later)

-- another byte
pub loop-count-preserved : goal.loop-count-preserved
loop-count-preserved g c =
    let e = c.in-Ok-Some.ensures in
    taking_more g.S.Source.left g.S.Source.last_read g.S.Source.faults _ _ _ _ _ _ _ c.loop-count.invariant _ _ c.in-Ok-Some.byte (rw c.in-Ok-Some.field-0-is at e.gives) (rw c.in-Ok-Some.field-0-is at e.from) c.in-Ok-Some.byte-test.1 e.cause.later
    c.keep.ensures

pub returns-clause-gives : goal.returns-clause-gives
returns-clause-gives g c = let i = c.loop-count.invariant in (i.part, record { no_end = i.no_end; taken = i.gone }, omega (arith, i.size, c.loop-count-test.false))

pub returns-clause-needed : goal.returns-clause-needed
returns-clause-needed g c = c.loop-count.invariant.needed

pub returns-clause-later : goal.returns-clause-later
returns-clause-later g c = c.loop-count.invariant.later
