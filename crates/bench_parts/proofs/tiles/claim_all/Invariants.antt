use Rattle.std.proofs.Common.{◌≡◌, ◌≤◌}
use Rattle.bench_parts.proofs.tiles.claim_all.Given as goal

abbrev pub invariant-loop-sheet : goal.invariant-loop-sheet
invariant-loop-sheet g l = record { rest : l.table ≡ record l.fn.table { cells = l.table.cells }; few : l.free ≤ l.sheet-index }
