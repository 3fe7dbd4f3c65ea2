use Rattle.aim_messages.proofs.Words.{lanes_on, one_on}
use Rattle.aim_messages.proofs.writing.lines.put_lanes.Goals as goal

pub loop-lane-preserved : goal.loop-lane-preserved
loop-lane-preserved c = record {
  rest = lanes_on c.loop-lane.out c.put_lane.new.out _ c.args.lanes c.loop-lane.lane c.loop-lane-test.true c.put_lane.ensures.added c.loop-lane.invariant.rest;
  len = one_on c.args.out.now c.loop-lane.out c.put_lane.new.out 4 c.loop-lane.lane c.loop-lane.invariant.len c.put_lane.ensures.len;
}
