-- A desk may go to another thread, an idle one too.
use denote.RattleType.{RattleType}
use denote.Param.Send.{IsSend, sendable}
use Rattle.std.proofs.Crossing.{crosses}
use Rattle.std.specs.declared.sync.ledger.Ledger.{Ghosts}
use Rattle.aim_sessions.proofs.approaches.Approaches.TheSendSync as approaches
use Rattle.aim_sessions.proofs.distances.Distances.TheSendSync as distances
use Rattle.aim_sessions.proofs.sessions.Sessions.TheSendSync as sessions
use Rattle.aim_policies.proofs.timelines.Timeline.TheSendSync as timeline
use Rattle.aim_reservations.proofs.Crosses.{idle_reservations_send, reservations_send}
use Rattle.aim_book.specs.contracts.desks.Desk as Desk
use Rattle.aim_book.specs.contracts.idle_desks.IdleDesk as IdleDesk

pub idle_desk_send : IsSend IdleDesk.the_field.row
idle_desk_send = search (sendable, crosses, sessions.the_send, idle_reservations_send, timeline.the_send, distances.the_send, approaches.the_send) depth 30

pub desk_send : (L : RattleType) (g : Ghosts L.Denot) → IsSend (Desk.the_field L g).row
desk_send L g = search (sendable, crosses, sessions.the_send, reservations_send, timeline.the_send, distances.the_send, approaches.the_send) depth 30
