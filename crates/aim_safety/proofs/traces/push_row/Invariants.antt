use Rattle.std.proofs.Common.{◌≡◌, ◌++◌, filter, length, map}
use Rattle.aim_safety.specs.Tiles.{cell_of, of_row}
use Rattle.aim_safety.specs.Traces.{is_traced}
use Rattle.aim_safety.proofs.traces.push_row.Given as goal

abbrev pub invariant-loop-col : goal.invariant-loop-col
invariant-loop-col l = map cell_of l.cells.items ≡ map cell_of l.initial.cells.items ++ filter (is_traced l.steps l.first) (of_row l.first (length l.steps) l.col l.row)
