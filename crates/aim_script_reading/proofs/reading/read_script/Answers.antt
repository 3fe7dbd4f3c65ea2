use Rattle.std.proofs.Common.{ℕ, List, Err, arith, ◌≡◌, true, false, sym, ap, subst, ◌∙◌}
use Rattle.aim_io.specs.Reader.{Reader, after_call}
use Rattle.aim_script_reading.specs.Taking.{Judged}
use Rattle.aim_script_reading.proofs.Between.{at_end_told, between_more, end_reads, fault_reads, needed_call, refusal_reads, stops_short}
use Rattle.aim_script_reading.proofs.Placing.{most, placed_kept, placed_more}
use Rattle.aim_script_reading.proofs.reading.read_script.Goals as goal

-- the input is at fault
pub returns-in-Err : goal.returns-in-Err
returns-in-Err g c =
    let i = c.lines.invariant in
    let e = c.in-Err.ensures in
    let new = c.advance.new.self in
    let after = e.fault i.no_fault in
    rw c.after_fault.ensures (fault_reads _ _ _ _ _ _ _ _ _ _ i (g.T.LineTaker.rests c.args.taker.now) (g.T.LineTaker.halts c.args.taker.now) (g.met.T.LineTaker.stands_rests c.args.taker.now) c.advance.new.source new c.in-Err.fault (e.step i.knows i.no_fault)
    (λ is. (let read = e.read (ap Err is) i.no_fault in stops_short _ _ _ _ _ _ _ _ _ _ i c.advance.new.source new _ after read.1 e.keeps read.0))
    (λ is. (let rose = (e.read (ap Err is) i.no_fault).2 in omega (arith, i.later, rose)))
    (omega (arith, i.later, c.advance.ensures.later))
    (needed_call _ _ _ _ _ _ _ _ _ _ i c.advance.new.source c.advance.ensures.ended c.advance.ensures.needed)
    (most _ _ new (rw (ap (λ (r : Reader). r.place) after) (placed_kept _ _ _ _ i.placed e.keeps)) e.sound))

-- the end of the input
pub returns-in-Ok-false : goal.returns-in-Ok-false
returns-in-Ok-false g c =
    let i = c.lines.invariant in
    let e = c.in-Ok-false.ensures in
    let t = c.in-Ok-false.field-0-test in
    let new = c.advance.new.self in
    end_reads _ _ _ _ _ _ _ _ _ _ i (g.T.LineTaker.rests c.args.taker.now) (g.T.LineTaker.halts c.args.taker.now) (g.met.T.LineTaker.stands_rests c.args.taker.now) c.advance.new.source new c.at_end.result
    (at_end_told g.T.LineTaker.rules i.before c.is_whole.result c.lines.number c.at_end.result c.at_end.ensures (c.is_whole.ensures c.args.taker.now i.before i.stands) (i.numbered ∙ sym i.count))
    (rw t at (e.step i.knows i.no_fault)) (c.advance.ensures.knows i.knows (rw t at e.end)) (omega (arith, i.later, c.advance.ensures.later))
    (needed_call _ _ _ _ _ _ _ _ _ _ i c.advance.new.source c.advance.ensures.ended c.advance.ensures.needed)
    (most _ _ new (placed_more _ _ _ c.lines.reader new false i.placed (rw t at e.taken) (rw t at e.after)) e.sound)

pub lines-preserved : goal.lines-preserved
lines-preserved g c =
    let i = c.lines.invariant in
    let e = c.in-Ok-true.ensures in
    let t = c.in-Ok-true.field-0-test in
    let new = c.advance.new.self in
    let after : new ≡ after_call c.lines.reader new true = rw t at e.after in
    let line = rw t at e.line in
    let judged = rw c.line.ensures at (c.in-Ok.ensures c.args.taker.now i.before i.stands) in
    between_more _ _ _ _ _ _ _ _ _ _ i c.advance.new.source new c.take.new.self judged.0 judged.1 judged.2
    after (rw t at e.going) line (rw t at e.taken) (rw t at (e.step i.knows i.no_fault)) e.sound (c.advance.ensures.knows i.knows)
    (needed_call _ _ _ _ _ _ _ _ _ _ i c.advance.new.source c.advance.ensures.ended c.advance.ensures.needed)
    (omega (arith, i.later, c.advance.ensures.later))

-- the line isn't taken
pub returns-in-Err-take : goal.returns-in-Err-take
returns-in-Err-take g c =
    let i = c.lines.invariant in
    let e = c.in-Ok-true.ensures in
    let t = c.in-Ok-true.field-0-test in
    let new = c.advance.new.self in
    let judged = subst (λ (line : List ℕ). Judged g.T.LineTaker.rules i.before line (Err c.in-Err-take.refusal) (λ more. g.T.LineTaker.stands c.args.taker.now more c.take.new.self) (g.T.LineTaker.rests c.args.taker.now i.before c.take.new.self) (g.T.LineTaker.halts c.args.taker.now i.before c.take.new.self)) c.line.ensures (c.in-Err-take.ensures c.args.taker.now i.before i.stands) in
    rw c.after_refusal.ensures (refusal_reads _ _ _ _ _ _ _ _ _ _ i (g.T.LineTaker.rests c.args.taker.now) (g.T.LineTaker.halts c.args.taker.now) c.advance.new.source new c.take.new.self c.in-Err-take.refusal judged (rw t at (e.step i.knows i.no_fault)) (omega (arith, i.later, c.advance.ensures.later))
    (needed_call _ _ _ _ _ _ _ _ _ _ i c.advance.new.source c.advance.ensures.ended c.advance.ensures.needed)
    (most _ _ new (placed_more _ _ _ c.lines.reader new true i.placed (rw t at e.taken) (rw t at e.after)) e.sound))
