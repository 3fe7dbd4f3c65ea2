use Rattle.std.proofs.Common.{◌≡◌, ◌<◌, ◌≤◌, ◌+◌, ◌-◌, ◌*◌, length, arith}
use Rattle.aim_requests.proofs.RowLemmas.{before_row}
use Rattle.aim_requests.proofs.StepLemmas.{is_step_at}
use Rattle.aim_requests.proofs.WrittenLemmas.{no_room, on_error, on_ok, written_more}
use Rattle.aim_requests.proofs.trials.write_next.Goals as goal

pub move_outer-first-requires-clause-near : goal.move_outer-first-requires-clause-near
move_outer-first-requires-clause-near c = rw c.side_and_times-n.ensures.times c.requires.near

pub move_outer-first-requires-clause-may : goal.move_outer-first-requires-clause-may
move_outer-first-requires-clause-may c = rw c.side_and_times-n.ensures.times c.requires.written.outer_may

pub move_inner-shown-requires-clause-near : goal.move_inner-shown-requires-clause-near
move_inner-shown-requires-clause-near c = rw c.side_and_times-n.ensures.times c.requires.near

pub move_inner-shown-requires-clause-may : goal.move_inner-shown-requires-clause-may
move_inner-shown-requires-clause-may c = rw c.side_and_times-n.ensures.times c.requires.written.inner_may

pub write_step-requires-clause-before : goal.write_step-requires-clause-before
write_step-requires-clause-before c =
    let step : c.step_at-step.result ≡ c.args.params.now.arrive + c.args.t - c.args.layout.now.times.edge = rw (← c.side_and_times-n.ensures.times) c.step_at-step.ensures in
    rw step (before_row c.args.sheet.now.spans (c.args.params.now.arrive + c.args.t - c.args.layout.now.times.edge) 0 c.move_outer-first.result.0 (omega arith) c.requires.written.before)

pub returns-clause-written : goal.returns-clause-written
returns-clause-written c =
    let i = c.args.layout.now in
    let p = c.args.params.now in
    let fast = c.args.fast in
    let rects = c.args.rects.now in
    let reaches = c.args.reaches.now in
    let t = c.args.t in
    let trial = c.requires.trial in
    let v = c.requires.written in
    let n = c.side_and_times-n.result.0 in
    let times = c.side_and_times-n.result.1 in
    let te : times ≡ i.times = c.side_and_times-n.ensures.times in
    let o = c.move_outer-first.ensures in
    let m = c.move_inner-shown.ensures in
    let outer = c.move_outer-first.new.outer in
    let inner = c.move_inner-shown.new.inner in
    let rows = c.rows_or-rows.result.now in
    let first = c.move_outer-first.result.0 in
    let last = c.move_outer-first.result.1 in
    let step : c.step_at-step.result ≡ p.arrive + t - i.times.edge = rw (← te) c.step_at-step.ensures in
    let near : t < length reaches + 2 * times.edge = rw te c.requires.near in
    let start : times.edge ≤ p.arrive + t = rw te v.start in
    let st = is_step_at i p fast rects reaches outer inner rows c.move_inner-shown.result t first last n times trial te c.side_and_times-n.ensures.n o.last start near o.moved m.shown m.moved c.rows_or-rows.ensures o.rows in
    let e = c.write_step.ensures in
    on_ok c.write_step.result e.cells e.count e.before
    (written_more i p fast rects reaches trial c.args.windows.now.outer c.args.windows.now.inner outer inner c.args.sheet.now.spans c.write_step.new.sheet.spans t c.step_at-step.result first last n rows v step (rw c.step_at-step.ensures st) (rw te at o.may) (rw te at m.may))

pub returns-clause-full : goal.returns-clause-full
returns-clause-full c =
    let i = c.args.layout.now in
    let p = c.args.params.now in
    let fast = c.args.fast in
    let rects = c.args.rects.now in
    let reaches = c.args.reaches.now in
    let t = c.args.t in
    let trial = c.requires.trial in
    let v = c.requires.written in
    let n = c.side_and_times-n.result.0 in
    let times = c.side_and_times-n.result.1 in
    let te : times ≡ i.times = c.side_and_times-n.ensures.times in
    let o = c.move_outer-first.ensures in
    let m = c.move_inner-shown.ensures in
    let outer = c.move_outer-first.new.outer in
    let inner = c.move_inner-shown.new.inner in
    let rows = c.rows_or-rows.result.now in
    let first = c.move_outer-first.result.0 in
    let last = c.move_outer-first.result.1 in
    let step : c.step_at-step.result ≡ p.arrive + t - i.times.edge = rw (← te) c.step_at-step.ensures in
    let near : t < length reaches + 2 * times.edge = rw te c.requires.near in
    let start : times.edge ≤ p.arrive + t = rw te v.start in
    let st = is_step_at i p fast rects reaches outer inner rows c.move_inner-shown.result t first last n times trial te c.side_and_times-n.ensures.n o.last start near o.moved m.shown m.moved c.rows_or-rows.ensures o.rows in
    on_error c.write_step.result c.write_step.ensures.full
    (no_room i p fast rects reaches trial c.args.windows.now.outer c.args.windows.now.inner outer c.args.sheet.now.spans t c.step_at-step.result first last n c.args.sheet.now.room rows v step (rw c.step_at-step.ensures st) c.requires.near)
