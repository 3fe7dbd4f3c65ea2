use Rattle.std.proofs.Common.{◌≡◌, ◌++◌, filter, length, map}
use Rattle.aim_safety.specs.Tiles.{cell_of, of_rows}
use Rattle.aim_safety.specs.Traces.{is_traced}
use Rattle.aim_safety.proofs.traces.push_tiles.Given as goal

abbrev pub invariant-loop-row : goal.invariant-loop-row
invariant-loop-row l = map cell_of l.cells.items ≡ map cell_of l.initial.cells.items ++ filter (is_traced l.steps l.first) (of_rows l.first (length l.steps) l.n l.row)
