use denote.Param.Send.{sendable}
use Rattle.std.proofs.Crossing.{crosses}
use Rattle.aim_mail.proofs.Crosses.{crossing}
use Rattle.bench_manager.proofs.mailbox.fn.beside.scope.Goals as goal

-- what is shown already is tried first
pub spawn_with-requires-send-F : goal.spawn_with-requires-send-F
spawn_with-requires-send-F g c κs within = search (sendable, crosses, crossing) depth 40 fits 20000

pub spawn_with-requires-send-T : goal.spawn_with-requires-send-T
spawn_with-requires-send-T g c κs within = search (sendable, crosses, crossing) depth 40 fits 20000
