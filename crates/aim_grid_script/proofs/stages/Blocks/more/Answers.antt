use Rattle.aim_grid_script.specs.Said.{parted}
use Rattle.aim_grid_script.proofs.Staging.{more_taken}
use Rattle.aim_grid_script.proofs.stages.Blocks.more.Goals as goal

pub returns-in-Ok-More : goal.returns-in-Ok-More
returns-in-Ok-More c before a =
    let p = parted before in
    more_taken before c.args.self c.args.line.now c.in-Ok-More.header c.requires.begins c.requires.vehicles a (rw c.in-Ok-More.field-0-is at (c.in-Ok-More.ensures p.block a.header))
