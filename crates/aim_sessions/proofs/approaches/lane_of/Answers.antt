use Rattle.aim_sessions.proofs.Lists.{one_lane, call_range}
use Rattle.aim_sessions.proofs.approaches.lane_of.Goals as goal

pub returns-in-Some : goal.returns-in-Some
returns-in-Some c = λ lane.
    let range = call_range c.args.call c.requires.range c.in-Some.lane c.in-Some.arrive c.in-Some.is in
    rw c.in-Some.is (one_lane c.in-Some.lane c.args.now c.in-Some.arrive c.args.horizon lane range.0 c.if-now-arrive.true)
