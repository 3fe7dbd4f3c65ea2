use Rattle.std.proofs.Common.{◌+◌, ◌-◌, length, refl, sym}
use Rattle.std.proofs.lemmas.Bool.{le-leb}
use Rattle.aim_requests.proofs.MoveLemmas.{kept_later, moved_later, steps_after, steps_before, steps_below, steps_order}
use Rattle.aim_requests.proofs.trials.move_inner.Goals as goal
use Rattle.aim_requests.proofs.trials.move_inner.Goals.{then-t-early-via-then-t-early, then-t-early-via-else-t-early+then-end-edge}

pub returns-then-t-early-clause-shown : goal.returns-then-t-early-clause-shown
returns-then-t-early-clause-shown c =
    let times = c.args.times.now in
    elim c.then-t-early.branch [
      | then-t-early-via-then-t-early w ↦ sym (steps_before c.args.t times.early times.late times.edge (length c.args.reaches.now - 1) w.if-t-early.true)
      | then-t-early-via-else-t-early+then-end-edge w ↦ sym (steps_after c.args.t times.early times.late times.edge (length c.args.reaches.now - 1) w.if-end-edge.true)
    ]

pub returns-then-t-early-clause-moved : goal.returns-then-t-early-clause-moved
returns-then-t-early-clause-moved c = λ shown. absurd (cc)

pub returns-then-t-early-clause-may : goal.returns-then-t-early-clause-may
returns-then-t-early-clause-may c =
    let times = c.args.times.now in
    kept_later c.args.rects.now c.args.reaches.now c.args.inner.now c.args.t times.early times.late times.edge (length c.args.reaches.now - 1) c.requires.may

pub move_on-requires-clause-may : goal.move_on-requires-clause-may
move_on-requires-clause-may c = rw (c.saturating_sub.ensures, c.min-high.ensures) c.requires.may

pub move_on-requires-clause-order : goal.move_on-requires-clause-order
move_on-requires-clause-order c =
    let times = c.args.times.now in
    rw (c.saturating_sub.ensures, c.min-high.ensures) (steps_order c.args.t times.early times.late times.edge (length c.args.reaches.now - 1) c.if-t-early.false c.if-end-edge.false)

pub move_on-requires-clause-high : goal.move_on-requires-clause-high
move_on-requires-clause-high c = rw c.min-high.ensures (steps_below (c.args.t + c.args.times.now.early - c.args.times.now.edge) (length c.args.reaches.now) c.requires.some)

pub returns-clause-shown : goal.returns-clause-shown
returns-clause-shown c =
    let times = c.args.times.now in
    rw (le-leb times.edge (c.args.t + times.early) c.if-t-early.false, le-leb c.args.t (length c.args.reaches.now - 1 + times.edge + times.late) c.if-end-edge.false) refl

pub returns-clause-moved : goal.returns-clause-moved
returns-clause-moved c = λ shown. rw (← c.saturating_sub.ensures, ← c.min-high.ensures) c.move_on.ensures

pub returns-clause-may : goal.returns-clause-may
returns-clause-may c =
    let times = c.args.times.now in
    moved_later c.args.rects.now c.args.reaches.now c.move_on.new.window c.args.t times.early times.late times.edge (length c.args.rects.now) c.requires.reaches c.requires.some c.if-end-edge.false
    (rw (← c.saturating_sub.ensures, ← c.min-high.ensures) c.move_on.ensures)
