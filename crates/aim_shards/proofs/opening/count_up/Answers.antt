use Rattle.std.proofs.Common.{arith}
use Rattle.aim_shards.proofs.Numbers.{count_all, count_more}
use Rattle.aim_shards.proofs.opening.count_up.Goals as goal

pub loop-number-preserved : goal.loop-number-preserved
loop-number-preserved c =
    let i = c.loop-number.invariant in
    let p = c.push_reserved.ensures in record {
      items = count_more c.loop-number.number c.loop-number.numbers.items c.push_reserved.new.self.items i.items p.items;
      count = omega (arith, p.len, i.count);
      room = omega (arith, p.capacity, i.room);
    }

pub returns : goal.returns
returns c = count_all c.loop-number.number c.args.callers c.loop-number.numbers.items c.loop-number.auto.number-end c.loop-number-test.false c.loop-number.invariant.items
