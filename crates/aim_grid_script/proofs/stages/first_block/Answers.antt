use Rattle.aim_grid_script.proofs.Staging.{first_taken}
use Rattle.aim_grid_script.specs.declared.stages.Blocks.{Blocks}
use Rattle.aim_grid_script.proofs.stages.first_block.Goals as goal

pub returns-in-Ok : goal.returns-in-Ok
returns-in-Ok c before counted =
    let blocks : Blocks = record { count = c.args.count; whole = c.new.result; header = c.in-Ok.header } in
    first_taken before blocks c.args.number c.new.ensures.items counted c.in-Ok.ensures
