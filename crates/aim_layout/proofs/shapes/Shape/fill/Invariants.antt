use Rattle.std.proofs.Common.{◌≡◌, ◌≤◌, take, vec_capacity, vec_len}
use Rattle.aim_layout.specs.Shapes.{stations_of}
use Rattle.aim_layout.proofs.shapes.Shape.fill.Given as goal

abbrev pub invariant-loop-j : goal.invariant-loop-j
invariant-loop-j l = record {
  stations : l.stations.items ≡ take l.j (stations_of l.self);
  count : vec_len l.stations ≡ l.j;
  room : 4097 ≤ vec_capacity l.stations;
}
