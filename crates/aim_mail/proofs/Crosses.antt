-- What comes back over the channels, and what a server and its clients are made of, may cross threads: shown part by part, as
-- of the channel of the requests. What others cite is at the end.
use denote.RattleType.{RattleType}
use denote.Param.Send.{IsSend, sendable}
use Rattle.std.proofs.Crossing.{crosses}
use Rattle.std.specs.contracts.option.Option as Option
use Rattle.std.specs.declared.sync.ledger.Ledger.{Ghosts}
use Rattle.aim_messages.proofs.replies.Reply.TheSendSync as reply
use Rattle.aim_tiles.proofs.counters.Steps.TheSendSync as steps
use Rattle.aim_book.proofs.book.Full.TheSendSync as full
use Rattle.aim_book.proofs.Crosses.{book_send}
use Rattle.atomic_table.proofs.badge.Badge.TheSendSync as badge
use Rattle.atomic_table.proofs.shared.Seat.TheSendSync as seat
use Rattle.atomic_table.specs.contracts.badge.Badge as Badge
use Rattle.atomic_table.specs.contracts.shared.Seat as Seat
use Rattle.crossbeam_channel.specs.contracts.flavors.array.Doing as Doing
use Rattle.crossbeam_channel.specs.contracts.flavors.array.Key as Key
use Rattle.aim_mail.proofs.ChannelCrosses.{declared_send, ends, intake_send, note_send, pool_send, port_send}
use Rattle.aim_mail.specs.contracts.response.Response as Response
use Rattle.aim_mail.specs.contracts.slip.Inlet as Inlet
use Rattle.aim_mail.specs.contracts.slip.Inlet.TheInside as InletInside
use Rattle.aim_mail.specs.contracts.slip.Slate as Slate
use Rattle.aim_mail.specs.contracts.slip.Slip as Slip
use Rattle.aim_mail.specs.contracts.slip.Slip.TheInside as SlipInside
use Rattle.aim_mail.specs.contracts.client.Client as Client
use Rattle.aim_mail.specs.contracts.client.Ended as Ended
use Rattle.aim_mail.specs.contracts.server.Desk as Desk
use Rattle.aim_mail.specs.contracts.server.Server as Server
use Rattle.aim_mail.specs.contracts.server.Served as Served

response_send : IsSend Response.the_row
response_send = search (sendable, crosses, reply.the_send, full.the_send, pool_send, note_send) depth 30

response_slot_send : IsSend (Option.the_row Response.the_row)
response_slot_send = search (sendable, crosses, response_send) depth 30

response_badge_send : IsSend (Badge.the_row (Key.the_row Response.the_row))
response_badge_send = search (sendable, crosses, badge.the_send) depth 30

-- the kinds of what a slot holds are named, as for letters
response_seat_send : IsSend (Seat.the_field (Badge.the_row (Key.the_row Response.the_row)) (Doing.the_row Response.the_row Slate.the_row)).row
response_seat_send = seat.the_send (Badge.the_row (Key.the_row Response.the_row)) (Doing.the_row Response.the_row Slate.the_row) response_badge_send

inlet_inside : IsSend InletInside.the_row
inlet_inside = declared_send InletInside.the_type (search (sendable, crosses, ends, response_badge_send, response_slot_send) depth 40, (response_seat_send, tt))

inlet_send : IsSend Inlet.the_row
inlet_send = search (sendable, inlet_inside)

slip_inside : IsSend SlipInside.the_row
slip_inside = declared_send SlipInside.the_type (search (sendable, crosses, ends, response_badge_send, response_slot_send) depth 40, (response_seat_send, (search (sendable, crosses), tt)))

slip_send : IsSend Slip.the_row
slip_send = search (sendable, slip_inside)

-- a client may go to another thread
pub client_send : IsSend Client.the_row
client_send = search (sendable, port_send, inlet_send) depth 20

-- and so may one that ended
pub ended_send : IsSend Ended.the_row
ended_send = search (sendable, port_send, inlet_send) depth 20

module _ (L : RattleType) (g : Ghosts L.Denot) where
  desk_send : IsSend (Desk.the_field L g).row
  desk_send = search (sendable, crosses, book_send, steps.the_send) depth 20

  -- a server may go to another thread
  pub server_send : IsSend (Server.the_row L g)
  server_send = search (sendable, crosses, desk_send, intake_send, slip_send) depth 20

  -- and so may one that has served
  pub served_send : IsSend (Served.the_row L g)
  served_send = search (sendable, crosses, desk_send, intake_send, slip_send) depth 20

-- for the searches of callers
pub ruleset crossing = (pool_send, client_send, ended_send, server_send, served_send)
