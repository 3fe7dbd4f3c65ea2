use Rattle.std.proofs.Common.{arith, ◌+◌, ◌-◌, min, length}
use Rattle.aim_requests.proofs.MoveLemmas.{may_later, moved_may}
use Rattle.aim_requests.proofs.trials.move_outer.Goals as goal

pub returns-clause-may : goal.returns-clause-may
returns-clause-may c =
    let a = c.saturating_sub.ensures in
    let b = c.min-high.ensures in
    let s = c.requires.some in
    let n = c.requires.near in
    may_later c.args.rects.now c.args.reaches.now c.move_on.new.window c.saturating_sub.result c.min-high.result (c.args.t + 1 - (c.args.edge + c.args.edge)) (min (c.args.t + 1 + c.args.edge - c.args.edge) (length c.args.reaches.now - 1)) (omega arith) (omega arith)
    (moved_may c.args.rects.now c.args.reaches.now c.move_on.new.window c.saturating_sub.result c.min-high.result (length c.args.rects.now) c.requires.reaches c.move_on.ensures (omega arith) (omega arith))
