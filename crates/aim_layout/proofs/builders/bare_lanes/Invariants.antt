use Rattle.std.proofs.Common.{◌≡◌, ◌≤◌, replicate, vec_capacity, vec_len}
use Rattle.aim_layout.specs.Building.{no_paths}
use Rattle.aim_layout.proofs.builders.bare_lanes.Given as goal

abbrev pub invariant-loop : goal.invariant-loop
invariant-loop l = record {
  count : vec_len l.bare ≡ l.counter;
  room : l.lanes ≤ vec_capacity l.bare;
  same : l.bare.items ≡ replicate l.counter no_paths;
}
