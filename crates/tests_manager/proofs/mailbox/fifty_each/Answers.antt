use denote.Param.Send.{sendable}
use Rattle.std.proofs.Crossing.{crosses}
use Rattle.aim_layout.proofs.layouts.Layout.TheSendSync as layout
use Rattle.aim_mail.proofs.Crosses.{crossing}
use Rattle.tests_manager.proofs.mailbox.fifty_each.Goals as goal

-- what is shown already is tried first
pub join-requires-send-F : goal.join-requires-send-F
join-requires-send-F g c κs within = search (crossing, layout.the_sync, sendable, crosses) depth 40 fits 20000

pub join-requires-send-A : goal.join-requires-send-A
join-requires-send-A g c κs within = search (crossing, layout.the_sync, sendable, crosses) depth 40 fits 20000
