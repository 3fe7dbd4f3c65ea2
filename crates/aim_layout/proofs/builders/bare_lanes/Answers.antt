use Rattle.std.proofs.Common.{arith}
use Rattle.aim_layout.specs.Building.{no_paths}
use Rattle.aim_layout.proofs.Elements.{same_more}
use Rattle.aim_layout.proofs.builders.bare_lanes.Goals as goal

pub loop-preserved : goal.loop-preserved
loop-preserved c =
    let i = c.loop.invariant in
    let p = c.push_reserved.ensures in record {
      count = omega (arith, p.len, i.count);
      room = omega (arith, p.capacity, i.room);
      same = same_more c.loop.counter no_paths c.in_ok-new.field-0 c.loop.bare.items c.push_reserved.new.self.items i.same c.in_ok-new.ensures p.items;
    }
