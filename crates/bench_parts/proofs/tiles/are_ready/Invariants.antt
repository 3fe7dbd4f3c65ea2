use Rattle.std.proofs.Common.{ℕ, ◌<◌, slice_index_or}
use Rattle.aim_sheets.specs.Sheets.{Spans}
use Rattle.bench_parts.specs.Ready.{IsReady}
use Rattle.bench_parts.proofs.tiles.are_ready.Given as goal

abbrev pub invariant-loop-sheet : goal.invariant-loop-sheet
invariant-loop-sheet g l = (k : ℕ) (d : Spans) → k < l.sheet-index → IsReady l.table (slice_index_or l.sheets k d)
