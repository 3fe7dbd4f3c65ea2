use Rattle.std.proofs.Common.{◌≡◌, ◌≤◌}
use Rattle.std.specs.Prelude.{vec_len, vec_capacity}
use Rattle.bench_shards.proofs.rectangles.Given as goal

abbrev pub invariant-loop-caller : goal.invariant-loop-caller
invariant-loop-caller l = record {
  count : vec_len l.all ≡ l.caller;
  upto : l.caller ≤ 64;
  room : 64 ≤ vec_capacity l.all;
}
