use Rattle.aim_layout.specs.Valid.{IsValid}
use Rattle.aim_grid_command.proofs.Each.{each_more}
use Rattle.aim_grid_command.proofs.reports.layouts_are_valid.Goals as goal

pub loop-layout-preserved : goal.loop-layout-preserved
loop-layout-preserved c = each_more IsValid c.args.layouts.now c.loop-layout.layout-index c.layout-item.result _ c.loop-layout-test.true c.layout-item.is c.loop-layout.invariant c.ground.ensures.valid
