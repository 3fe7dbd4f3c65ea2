use Rattle.aim_grid_script.proofs.Staging.{end_taken}
use Rattle.aim_grid_script.proofs.stages.after_end.Goals as goal

pub returns : goal.returns
returns c before st = end_taken before c.args.routes st
