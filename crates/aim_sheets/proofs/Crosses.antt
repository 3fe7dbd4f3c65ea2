-- A sheet and a pool may go to other threads, and threads may share a sheet. A sheet's nodes refer to one another, and of
-- such a type, and of each that holds one, nothing is kept ready: so what holds sheets is shown part by part, in the crate
-- where it stands.
use denote.Param.Send.{IsSend, IsSync, sendable}
use Rattle.std.proofs.Crossing.{crosses}
use Rattle.aim_sheets.proofs.sheets.Slots.TheSendSync as slots
use Rattle.aim_sheets.proofs.sheets.Node.TheLaws.TheKnot as node
use Rattle.aim_sheets.specs.contracts.pools.Pool as Pool
use Rattle.aim_sheets.specs.contracts.sheets.Sheet as Sheet

pub sheet_send : IsSend Sheet.the_row
sheet_send = search (sendable, crosses, node.send-Node, slots.the_send) depth 20

pub sheet_sync : IsSync Sheet.the_row
sheet_sync = search (sendable, crosses, node.sync-Node, slots.the_sync) depth 20

pub pool_send : IsSend Pool.the_row
pool_send = search (sendable, crosses, node.send-Node, slots.the_send) depth 20
