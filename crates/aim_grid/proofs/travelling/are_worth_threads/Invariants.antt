use Rattle.std.proofs.Common.{◌≤◌}
use Rattle.aim_grid.proofs.travelling.are_worth_threads.Given as goal

abbrev pub invariant-loop-place : goal.invariant-loop-place
invariant-loop-place l = l.busy ≤ l.place
