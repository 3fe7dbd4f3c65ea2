-- A pass over quadrants may go to another thread, and threads may share a flag.
use denote.Param.Send.{IsSend, IsSync, sendable}
use Rattle.std.proofs.Crossing.{crosses}
use Rattle.std.proofs.sync.atomic.AtomicBool.TheSendSync as flag
use Rattle.std.specs.contracts.sync.atomic.AtomicBool as AtomicBool
use Rattle.aim_shards.proofs.pass.ShardPass.TheSendSync as pass
use Rattle.aim_shards.specs.contracts.pass.ShardPass as ShardPass

pub pass_send : IsSend ShardPass.the_row
pass_send = search (sendable, crosses, pass.the_send)

pub flag_sync : IsSync AtomicBool.the_row
flag_sync = search (sendable, crosses, flag.the_sync)
