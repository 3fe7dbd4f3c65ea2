use Rattle.std.proofs.Common.{◌≡◌, ◌≤◌, replicate, vec_capacity, vec_len}
use Rattle.aim_layout.proofs.builders.no_tiles.Given as goal

abbrev pub invariant-loop : goal.invariant-loop
invariant-loop l = record {
  count : vec_len l.tiles ≡ l.counter;
  room : l.lanes ≤ vec_capacity l.tiles;
  same : l.tiles.items ≡ replicate l.counter (replicate 64 0);
}
