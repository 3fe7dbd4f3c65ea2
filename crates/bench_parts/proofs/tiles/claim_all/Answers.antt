use Rattle.bench_parts.proofs.ReadyLemmas.{ready_at}
use Rattle.bench_parts.proofs.tiles.claim_all.Goals as goal

pub first_taken-requires : goal.first_taken-requires
first_taken-requires g c = (ready_at c.args.table.now c.loop-sheet.table c.args.sheets.now c.loop-sheet.sheet-index c.sheet-item.result c.loop-sheet-test.true c.sheet-item.is c.loop-sheet.invariant.rest c.requires.ready).0

pub claim-requires : goal.claim-requires
claim-requires g c = (let r = ready_at c.args.table.now c.loop-sheet.table c.args.sheets.now c.loop-sheet.sheet-index c.sheet-item.result c.loop-sheet-test.true c.sheet-item.is c.loop-sheet.invariant.rest c.requires.ready in record { tiles = r.0; ahead = r.1 })
