use Rattle.std.proofs.Common.{◌≡◌, length, sym, ap, ◌∙◌, arith}
use Rattle.bench_shards.proofs.Opened.{all_own}
use Rattle.bench_shards.proofs.open.Goals as goal

pub returns-in-Ok : goal.returns-in-Ok
returns-in-Ok c =
    let e = c.in-Ok.ensures in
    let s = c.in-Ok.opened.shards in
    let sets : length s.sets ≡ length c.in_ok-sets.sets.items = ap length e.shards.1 in
    let cut = c.in_ok-sets.ensures.count in
    let count = c.in_ok-rectangles.ensures in
    record { own = all_own s c.in-Ok.opened.passes.items 64 e.passes (omega (arith, sets, cut, count)) }
