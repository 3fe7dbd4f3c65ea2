use Rattle.bench_parts.specs.Ready.{AreReady}
use Rattle.bench_parts.proofs.tiles.claim_rounds.Given as goal

abbrev pub invariant-loop : goal.invariant-loop
invariant-loop g l = AreReady l.table l.sheets
