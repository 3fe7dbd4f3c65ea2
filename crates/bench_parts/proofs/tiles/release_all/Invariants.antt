use Rattle.std.proofs.Common.{◌≡◌}
use Rattle.bench_parts.proofs.tiles.release_all.Given as goal

abbrev pub invariant-loop-sheet : goal.invariant-loop-sheet
invariant-loop-sheet g l = l.table ≡ record l.fn.table { cells = l.table.cells }
