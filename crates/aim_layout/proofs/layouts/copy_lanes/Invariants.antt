use Rattle.std.proofs.Common.{◌≡◌, ◌≤◌, length, take, vec_capacity, vec_len}
use Rattle.aim_layout.proofs.layouts.copy_lanes.Given as goal

abbrev pub invariant-loop-lane : goal.invariant-loop-lane
invariant-loop-lane l = record {
  count : vec_len l.copies ≡ l.lane-index;
  room : length l.lanes ≤ vec_capacity l.copies;
  same : l.copies.items ≡ take l.lane-index l.lanes;
}
