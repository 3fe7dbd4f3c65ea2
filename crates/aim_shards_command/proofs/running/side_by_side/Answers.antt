use denote.Param.Send.{sendable}
use Rattle.std.proofs.Common.{◌≡◌, length, subst, arith}
use Rattle.aim_shards_command.proofs.lines.ShardLine.TheSendSync as line
use Rattle.aim_shards_command.specs.declared.callers.Caller.{Caller}
use Rattle.aim_shards_command.specs.Running.{HasCalled}
use Rattle.aim_shards.proofs.Crosses.{shards_sync}
use Rattle.aim_shards_command.proofs.running.side_by_side.Goals as goal

pub for_each_mut-requires-sync-F : goal.for_each_mut-requires-sync-F
for_each_mut-requires-sync-F g c κs within = search (sendable, shards_sync, line.the_sync, c.type_bounds) depth 20

pub returns-clause-called : goal.returns-clause-called
returns-clause-called g c =
    let kept : length c.for_each_mut.new.s ≡ length c.args.callers.now = omega arith in
    (λ k d lt.
    let h = (c.for_each_mut.ensures k d (omega (arith, lt, kept))).1 in
    subst (λ (x : Caller). HasCalled c.args.shards.now c.args.lines.now x) h.left h.call)
