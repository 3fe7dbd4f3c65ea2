use denote.Param.Send.{sendable}
use Rattle.std.proofs.Crossing.{crosses}
use Rattle.aim_shards.proofs.Crosses.{shards_sync}
use Rattle.tests_manager.proofs.Crosses.{flag_sync, pass_send}
use Rattle.tests_manager.proofs.shards.side_by_side.Goals as goal

pub join-requires-send-F : goal.join-requires-send-F
join-requires-send-F g c κs within = search (sendable, crosses, shards_sync, pass_send, flag_sync, c.type_bounds) depth 30
