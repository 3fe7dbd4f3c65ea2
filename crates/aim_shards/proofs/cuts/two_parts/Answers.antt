use Rattle.std.proofs.Common.{false, true}
use Rattle.aim_shards.proofs.Cutting.{part_at, room_at}
use Rattle.aim_shards.proofs.cuts.two_parts.Goals as goal

pub returns-clause-left : goal.returns-clause-left
returns-clause-left c = part_at c.args.half c.args.down false c.args.sheet.now.spans c.in_ok-left.left.spans c.new.ensures c.in_ok-left.ensures

pub returns-clause-right : goal.returns-clause-right
returns-clause-right c = part_at c.args.half c.args.down true c.args.sheet.now.spans c.in_ok-right.right.spans c.new-2.ensures c.in_ok-right.ensures

pub part-requires-clause-room : goal.part-requires-clause-room
part-requires-clause-room c = room_at c.args.half c.args.down false c.args.sheet.now.spans c.room_beside-room.result c.new.ensures c.room_beside-room.ensures

pub part-requires-2-clause-room : goal.part-requires-2-clause-room
part-requires-2-clause-room c = room_at c.args.half c.args.down true c.args.sheet.now.spans c.room_beside-room.result c.new-2.ensures c.room_beside-room.ensures
