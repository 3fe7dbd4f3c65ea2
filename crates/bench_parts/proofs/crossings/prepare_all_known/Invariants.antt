use Rattle.std.proofs.Common.{◌≡◌}
use Rattle.aim_requests.specs.Shapes.{ArePreparedFor}
use Rattle.bench_parts.proofs.crossings.prepare_all_known.Given as goal

abbrev pub invariant-loop-round : goal.invariant-loop-round
invariant-loop-round g l = record {
  known : ArePreparedFor l.layout l.shapes;
  count : l.pool.count ≡ 2;
  room : l.pool.room ≡ l.layout.grid.spans;
}
