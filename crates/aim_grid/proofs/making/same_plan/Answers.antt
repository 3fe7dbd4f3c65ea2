use Rattle.aim_grid.proofs.Plans.{bare_is}
use Rattle.aim_grid.proofs.making.same_plan.Goals as goal

pub returns : goal.returns
returns c = bare_is c.args.plan.now c.none.result c.requires.bare c.none.ensures
