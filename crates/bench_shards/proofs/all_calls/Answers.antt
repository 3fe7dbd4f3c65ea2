use denote.Param.Send.{sendable}
use Rattle.std.proofs.Common.{◌<◌, length, sym, subst}
use Rattle.aim_shards.specs.Models.{IsPassOf, PassModel}
use Rattle.aim_shards.proofs.Crosses.{shards_sync}
use Rattle.bench_shards.proofs.all_calls.Goals as goal

pub for_each_mut-requires-clause-accepts : goal.for_each_mut-requires-clause-accepts
for_each_mut-requires-clause-accepts g c κs within = λ i p lt is.
    subst (λ (x : PassModel). IsPassOf c.args.shards.now x × (x.number < length c.args.shards.now.sets)) (sym is) (c.requires.own i p.now lt)

pub for_each_mut-requires-sync-F : goal.for_each_mut-requires-sync-F
for_each_mut-requires-sync-F g c κs within = search (sendable, shards_sync) depth 20
