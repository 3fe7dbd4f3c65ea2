use Rattle.std.proofs.Common.{◌≡◌, ◌+◌, ◌-◌, ◌*◌, ◌≤◌, length, map, filter, decimal}
use Rattle.std.specs.List.{range_with_len}
use Rattle.aim_messages.specs.Lines.{has_lane, lane_words}
use Rattle.aim_messages.specs.Writing.{added}
use Rattle.aim_messages.proofs.writing.lines.put_lanes.Given as goal

abbrev pub invariant-loop-lane : goal.invariant-loop-lane
invariant-loop-lane l = record {
  rest : added l.out (map decimal (filter (has_lane l.lanes) (range_with_len l.lane (16 - l.lane)))) ≡ added l.fn.out (lane_words l.lanes);
  len : length l.out ≤ length l.fn.out + 4 * l.lane;
}
