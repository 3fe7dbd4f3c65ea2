use Rattle.bench_parts.proofs.ReadyLemmas.{ready_at}
use Rattle.bench_parts.proofs.tiles.release_all.Goals as goal

pub release-requires : goal.release-requires
release-requires g c = (ready_at c.args.table.now c.loop-sheet.table c.args.sheets.now c.loop-sheet.sheet-index c.sheet-item.result c.loop-sheet-test.true c.sheet-item.is c.loop-sheet.invariant c.requires.ready).0
