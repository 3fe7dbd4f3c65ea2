use Rattle.std.proofs.Common.{◌≡◌, length, arith, refl}
use Rattle.aim_requests.proofs.WrittenLemmas.{all_cells, all_counted, written_none}
use Rattle.aim_requests.proofs.trials.write_steps.Goals as goal

pub loop-t-init : goal.loop-t-init
loop-t-init c =
    let te = c.side_and_times.ensures.times in
    let e = rw te at c.saturating_sub-first.ensures in
    let none : length c.args.sheet.now.spans ≡ 0 = rw c.requires.empty refl in
    record {
      written = written_none c.args.layout.now c.args.params.now c.args.fast c.args.rects.now c.args.reaches.now c.requires.trial c.args.windows.now.outer c.args.windows.now.inner c.args.sheet.now.spans c.saturating_sub-first.result
          c.requires.outer c.requires.inner c.requires.empty (omega (arith, e));
      fits = omega (arith, none);
      room = refl;
    }

pub write_next-requires-clause-near : goal.write_next-requires-clause-near
write_next-requires-clause-near c = rw c.side_and_times.ensures.times at c.loop-t-test.true

pub returns-clause-cells : goal.returns-clause-cells
returns-clause-cells c =
    all_cells c.args.layout.now c.args.params.now c.args.fast c.args.rects.now c.args.reaches.now c.requires.trial c.loop-t.windows.outer c.loop-t.windows.inner c.loop-t.sheet.spans c.loop-t.t c.loop-t.invariant.written
    (rw c.side_and_times.ensures.times at c.loop-t-test.false)

pub returns-clause-count : goal.returns-clause-count
returns-clause-count c =
    all_counted c.args.layout.now c.args.params.now c.args.fast c.args.rects.now c.args.reaches.now c.requires.trial c.loop-t.windows.outer c.loop-t.windows.inner c.loop-t.sheet.spans c.loop-t.t c.loop-t.invariant.written
    (rw c.side_and_times.ensures.times at c.loop-t-test.false)
