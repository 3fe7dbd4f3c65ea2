use Rattle.std.proofs.Common.{refl, rules}
use Rattle.std.proofs.lemmas.Bool.{OnTrue_at}
use Rattle.bench_parts.proofs.ReadyLemmas.{ready_kept}
use Rattle.bench_parts.proofs.tiles.claim_rounds.Goals as goal

pub loop-init : goal.loop-init
loop-init g c = OnTrue_at (search rules) c.are_ready.ensures

pub release_all-requires : goal.release_all-requires
release_all-requires g c = record { ready = ready_kept c.loop.table c.claim_all-claimed.new.table c.args.sheets.now c.args.sheets.now refl c.claim_all-claimed.ensures.rest c.loop.invariant }

pub loop-preserved : goal.loop-preserved
loop-preserved g c = ready_kept c.claim_all-claimed.new.table c.release_all.new.table c.args.sheets.now c.args.sheets.now refl c.release_all.ensures.rest
    (ready_kept c.loop.table c.claim_all-claimed.new.table c.args.sheets.now c.args.sheets.now refl c.claim_all-claimed.ensures.rest c.loop.invariant)
