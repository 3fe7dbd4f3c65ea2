use Rattle.std.proofs.Common.{◌≡◌, ◌*◌, ◌≤◌, length, take}
use Rattle.std.specs.List.{sum_by}
use Rattle.aim_grid.specs.Drove.{Drove}
use Rattle.aim_grid_command.proofs.reports.entries_of.Given as goal

abbrev pub invariant-loop-drove : goal.invariant-loop-drove
invariant-loop-drove l = record {
  sum : l.entries ≡ sum_by (λ (d : Drove). length d.journal.items) (take l.drove-index l.left);
  few : l.entries ≤ 32769 * l.drove-index;
}
