use Rattle.std.proofs.Common.{◌≤◌, arith}
use Rattle.aim_footprint.proofs.FastLemmas.{front_after, parts_fit}
use Rattle.aim_footprint.proofs.fields.farthest_front.Goals as goal

pub overflow_mul-gained-2 : goal.overflow_mul-gained-2
overflow_mul-gained-2 c =
    let p = c.args.params.now in
    let m = c.requires.moving in
    let few : c.min-gaining.result ≤ 2048 = omega (arith, c.min-gaining.ensures) in
    let fit = parts_fit p.speed p.accel p.max_speed c.min-gaining.result c.saturating_sub.result (omega (arith, m.most, m.greatest)) m.greatest m.accel few (omega (arith, few, c.saturating_sub.ensures)) in
    omega (arith, fit.1)

pub overflow_add-result : goal.overflow_add-result
overflow_add-result c =
    let p = c.args.params.now in
    let m = c.requires.moving in
    let few : c.min-gaining.result ≤ 2048 = omega (arith, c.min-gaining.ensures) in
    let fit = parts_fit p.speed p.accel p.max_speed c.min-gaining.result c.saturating_sub.result (omega (arith, m.most, m.greatest)) m.greatest m.accel few (omega (arith, few, c.saturating_sub.ensures)) in
    omega (arith, fit.0, fit.1)

pub overflow_add-result-2 : goal.overflow_add-result-2
overflow_add-result-2 c =
    let p = c.args.params.now in
    let m = c.requires.moving in
    let few : c.min-gaining.result ≤ 2048 = omega (arith, c.min-gaining.ensures) in
    let fit = parts_fit p.speed p.accel p.max_speed c.min-gaining.result c.saturating_sub.result (omega (arith, m.most, m.greatest)) m.greatest m.accel few (omega (arith, few, c.saturating_sub.ensures)) in
    omega (arith, fit.0, fit.1, fit.2)

pub returns : goal.returns
returns c =
    let p = c.args.params.now in
    rw c.saturating_sub.ensures (front_after p 2048 c.div_ceil.result c.min-gaining.result c.requires.made c.div_ceil.ensures c.min-gaining.ensures)
