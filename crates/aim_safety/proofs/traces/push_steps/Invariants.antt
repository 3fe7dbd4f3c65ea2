use Rattle.std.proofs.Common.{◌≡◌, ◌++◌, filter, map}
use Rattle.aim_safety.specs.Tiles.{cell_of, of_tile}
use Rattle.aim_safety.specs.Traces.{is_traced}
use Rattle.aim_safety.proofs.traces.push_steps.Given as goal

abbrev pub invariant-loop-k : goal.invariant-loop-k
invariant-loop-k l = map cell_of l.cells.items ≡ map cell_of l.initial.cells.items ++ filter (is_traced l.steps l.first) (of_tile l.first l.k l.row l.col)
