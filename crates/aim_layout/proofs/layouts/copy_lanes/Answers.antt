use Rattle.std.proofs.Common.{arith, ◌∙◌}
use Rattle.aim_layout.proofs.Elements.{copied_all, copied_more}
use Rattle.aim_layout.proofs.layouts.copy_lanes.Goals as goal

pub loop-lane-preserved : goal.loop-lane-preserved
loop-lane-preserved c =
    let i = c.loop-lane.invariant in
    let p = c.push_reserved.ensures in record {
      count = omega (arith, p.len, i.count);
      room = omega (arith, p.capacity, i.room);
      same = copied_more c.args.lanes.now c.loop-lane.lane-index c.in_ok-copy.field-0 c.lane-item.result c.loop-lane.copies.items c.push_reserved.new.self.items c.loop-lane-test.true i.same (c.in_ok-copy.ensures ∙ c.lane-item.is) p.items;
    }

pub returns : goal.returns
returns c = copied_all c.args.lanes.now c.loop-lane.lane-index c.loop-lane.copies.items c.loop-lane.auto.lane-index-end c.loop-lane-test.false c.loop-lane.invariant.same
