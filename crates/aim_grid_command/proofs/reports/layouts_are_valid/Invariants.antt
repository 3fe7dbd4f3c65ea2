use Rattle.std.proofs.Common.{ℕ, ◌<◌, get_or}
use Rattle.aim_layout.specs.Intersection.{Intersection}
use Rattle.aim_layout.specs.Valid.{IsValid}
use Rattle.aim_grid_command.proofs.reports.layouts_are_valid.Given as goal

abbrev pub invariant-loop-layout : goal.invariant-loop-layout
invariant-loop-layout l = (k : ℕ) (d : Intersection) → k < l.layout-index → IsValid (get_or l.layouts k d)
