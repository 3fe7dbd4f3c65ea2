use Rattle.aim_grid_script.proofs.Staging.{begin_taken}
use Rattle.aim_grid_script.proofs.stages.after_begin.Goals as goal

pub returns : goal.returns
returns c before st = begin_taken before c.args.routes st
