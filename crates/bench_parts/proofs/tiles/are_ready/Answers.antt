use Rattle.std.proofs.Common.{arith, rules}
use Rattle.bench_parts.proofs.ReadyLemmas.{ready_more}
use Rattle.bench_parts.proofs.tiles.are_ready.Goals as goal

pub loop-sheet-preserved : goal.loop-sheet-preserved
loop-sheet-preserved g c = ready_more c.args.table.now c.args.sheets.now c.loop-sheet.sheet-index c.sheet-item.result c.loop-sheet-test.true c.sheet-item.is (c.has_tiles.ensures.0 (search rules)) (c.has_steps.ensures.0 (search rules)) c.loop-sheet.invariant

pub returns : goal.returns
returns g c = λ k d lt. c.loop-sheet.invariant k d (omega (arith, lt, c.loop-sheet-test.false))
