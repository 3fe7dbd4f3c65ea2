use Rattle.std.proofs.Common.{◌≡◌, ◌-◌, ◌++◌, map, filter}
use Rattle.std.specs.List.{range_with_len}
use Rattle.serde_json.specs.View.{view}
use Rattle.aim_messages.specs.Lines.{has_lane, all_lanes}
use Rattle.aim_json.specs.Members.{count}
use Rattle.aim_json.proofs.lines.lanes_value.Given as goal

abbrev pub invariant-loop-lane : goal.invariant-loop-lane
invariant-loop-lane l =
    map view l.list.items ++ map count (filter (has_lane l.lanes) (range_with_len l.lane (16 - l.lane))) ≡ map count (filter (has_lane l.lanes) all_lanes)
