use Rattle.std.proofs.Common.{◌≡◌}
use Rattle.bench_parts.proofs.crossings.prepare_all.Given as goal

abbrev pub invariant-loop-round : goal.invariant-loop-round
invariant-loop-round g l = record {
  count : l.pool.count ≡ 2;
  room : l.pool.room ≡ l.layout.grid.spans;
}
