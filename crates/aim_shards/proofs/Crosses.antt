-- Threads may share the quadrants of a grid. They hold sheets (`Crosses` of `aim_sheets`): so the search alone takes seconds,
-- and it is shown part by part. What others cite is at the end.
use denote.Param.Send.{IsSend, IsSync, sendable}
use denote.Param.SendFields.{declared_sync}
use Rattle.std.proofs.Crossing.{crosses}
use Rattle.std.specs.contracts.option.Option as Option
use Rattle.aim_sheets.proofs.Crosses.{sheet_sync}
use Rattle.atomic_table.proofs.owned.Table.TheSendSync as table
use Rattle.aim_shards.proofs.quarter.Quarter.TheSendSync as quarter
use Rattle.aim_shards.specs.contracts.quarter.Quarter as Quarter
use Rattle.aim_shards.specs.contracts.sets.Quartered as Quartered
use Rattle.aim_shards.specs.contracts.calls.Shards as Shards
use Rattle.aim_shards.specs.contracts.calls.Shards.TheInside as Inside

quartered_sync : IsSync Quartered.the_row
quartered_sync = search (sendable, crosses, sheet_sync) depth 20

slot_send : IsSend (Option.the_row Quarter.the_row)
slot_send = search (sendable, quarter.the_send) depth 20

-- the fields, in their order
inside : IsSync Inside.the_row
inside = declared_sync Inside.the_type (search (sendable, crosses, table.the_sync, slot_send) depth 20, (search (sendable, crosses) depth 20, (search (sendable, crosses, quartered_sync) depth 20, (quartered_sync, tt))))

pub shards_sync : IsSync Shards.the_row
shards_sync = search (sendable, inside)
