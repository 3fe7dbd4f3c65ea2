use Rattle.std.proofs.Common.{◌-◌, ◌+◌, ◌/◌, arith}
use Rattle.std.proofs.Math.Nat.{min-le_right}
use Rattle.aim_geometry.proofs.Quotients.{quotients_follow, quotients_meet}
use Rattle.aim_geometry.proofs.tiles.tile_range.Goals as goal

pub returns-clause-order : goal.returns-clause-order
returns-clause-order c = rw (c.min-last.ensures, c.saturating_sub-2.ensures, c.saturating_sub.ensures)
    (quotients_follow c.args.tile c.args.half c.args.x c.args.n c.requires.size c.requires.some c.requires.inside)

pub returns-clause-within : goal.returns-clause-within
returns-clause-within c =
    let some = c.requires.some in
    let most = min-le_right ((c.args.x + c.args.half) / c.args.tile) (c.args.n - 1) in
    rw c.min-last.ensures omega arith

pub returns-clause-exact : goal.returns-clause-exact
returns-clause-exact c = λ i l. rw (c.min-last.ensures, c.saturating_sub-2.ensures, c.saturating_sub.ensures)
    (quotients_meet c.args.tile c.args.half i c.args.x (c.args.n - 1) c.requires.size (omega arith))
