use Rattle.std.proofs.Common.{List, ◌+◌, ◌-◌, ◌++◌, map, filter, ap, ◌∙◌}
use Rattle.std.specs.List.{range_with_len}
use Rattle.serde_json.specs.declared.value.Value.{Value}
use Rattle.serde_json.specs.View.{view}
use Rattle.aim_messages.specs.Lines.{has_lane, all_lanes}
use Rattle.aim_json.specs.Members.{count}
use Rattle.aim_json.proofs.Lists.{lanes_next}
use Rattle.aim_json.proofs.lines.lanes_value.Goals as goal

pub loop-lane-init : goal.loop-lane-init
unfolding all_lanes
loop-lane-init c = ap (λ (items : List Value). map view items ++ map count (filter (has_lane c.args.lanes) (range_with_len 0 16))) c.new-list.ensures.items

pub loop-lane-preserved : goal.loop-lane-preserved
loop-lane-preserved c =
    let lanes = c.args.lanes in
    let lane = c.loop-lane.lane in
    ap (λ made. made ++ map count (filter (has_lane lanes) (range_with_len (lane + 1) (16 - (lane + 1))))) c.in_ok-push_lane.ensures
    ∙ lanes_next (map view c.loop-lane.list.items) lanes lane c.loop-lane-test.true
    ∙ c.loop-lane.invariant
