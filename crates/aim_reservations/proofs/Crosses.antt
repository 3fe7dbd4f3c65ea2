-- Reservations may go to another thread, idle ones too.
use denote.RattleType.{RattleType}
use denote.Param.Send.{IsSend, sendable}
use Rattle.std.proofs.Crossing.{crosses}
use Rattle.std.specs.declared.sync.ledger.Ledger.{Ghosts}
use Rattle.aim_sheets.proofs.Crosses.{sheet_send}
use Rattle.aim_tiles.proofs.idle.IdleTable.TheSendSync as idle
use Rattle.aim_tiles.proofs.tables.Table.TheSendSync as tiles
use Rattle.aim_reservations.specs.contracts.idle.IdleReservations as IdleReservations
use Rattle.aim_reservations.specs.contracts.reservations.Reservation as Reservation
use Rattle.aim_reservations.specs.contracts.reservations.Reservations as Reservations

reservation_send : IsSend Reservation.the_row
reservation_send = search (sendable, crosses, sheet_send) depth 20

pub idle_reservations_send : IsSend IdleReservations.the_field.row
idle_reservations_send = search (sendable, crosses, idle.the_send, reservation_send) depth 20

pub reservations_send : (L : RattleType) (g : Ghosts L.Denot) → IsSend (Reservations.the_field L g).row
reservations_send L g = search (sendable, crosses, tiles.the_send, reservation_send) depth 20
