use Rattle.aim_drive_command.proofs.Ways.{way_taken, way_added}
use Rattle.aim_drive_command.proofs.layout.add_way.Goals as goal

pub unreachable-requires : goal.unreachable-requires
unreachable-requires c = way_taken c.args.place c.way-lane.result.0 c.way-lane.result.1 c.way-lane.result.2 _ c.add_move.result c.in-Err.field-0 c.way-lane.ensures c.requires.laid c.add_move.ensures.fault c.in-Err.is

pub returns : goal.returns
returns c = way_added c.args.place c.way-lane.result.0 c.way-lane.result.1 c.way-lane.result.2 _ _ c.way-lane.ensures c.requires.laid c.in-Ok.ensures.ok
