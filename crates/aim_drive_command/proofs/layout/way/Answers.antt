use Rattle.aim_drive_command.proofs.Table.{way_at}
use Rattle.aim_drive_command.proofs.layout.way.Goals as goal

pub returns : goal.returns
returns c = way_at c.args.place c.shape_between.result c.requires c.shape_between.ensures
