use Rattle.std.proofs.Common.{ℕ, ◌<◌, get_or}
use Rattle.aim_grid.specs.Drove.{Drove}
use Rattle.aim_grid_command.specs.Values.{HasValues}
use Rattle.aim_grid_command.proofs.reports.all_fit.Given as goal

abbrev pub invariant-loop-drove : goal.invariant-loop-drove
invariant-loop-drove l = (k : ℕ) (d : Drove) → k < l.drove-index → HasValues (get_or l.left k d)
