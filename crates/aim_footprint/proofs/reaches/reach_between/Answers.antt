use Rattle.std.proofs.Common.{◌≤◌, ◌*◌, ◌/◌, arith}
use Rattle.std.proofs.Math.Nat.{div-le_of_le-mul}
use Rattle.aim_footprint.proofs.reaches.reach_between.Goals as goal

pub overflow_cast-result : goal.overflow_cast-result
overflow_cast-result c =
    let spacing = c.args.spacing in
    let within : c.saturating_sub.result ≤ spacing * c.args.m = omega (arith, c.saturating_sub.ensures, c.requires.way) in
    let low : c.saturating_sub.result / spacing ≤ c.args.m = div-le_of_le-mul spacing within in
    omega (arith, low, c.requires.few)
