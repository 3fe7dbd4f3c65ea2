use Rattle.aim_grid_command.specs.Values.{HasValues}
use Rattle.aim_grid_command.proofs.Each.{each_more}
use Rattle.aim_grid_command.proofs.reports.all_fit.Goals as goal

pub loop-drove-preserved : goal.loop-drove-preserved
loop-drove-preserved c = each_more HasValues c.args.left.now c.loop-drove.drove-index c.drove-item.result _ c.loop-drove-test.true c.drove-item.is c.loop-drove.invariant c.drove_fits.ensures
