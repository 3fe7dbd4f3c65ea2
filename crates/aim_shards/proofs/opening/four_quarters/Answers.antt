use Rattle.std.proofs.Common.{refl, arith}
use Rattle.aim_shards.proofs.Quarters.{new_none, new_more, new_four}
use Rattle.aim_shards.proofs.opening.four_quarters.Goals as goal

pub loop-init : goal.loop-init
loop-init c =
    let p = c.in_ok-slots.ensures in record {
      count = omega (arith, p.len);
      room = omega (arith, p.capacity);
      made = new_none c.args.room c.args.n c.args.horizon 0 c.in_ok-slots.slots.items refl p.items;
    }

pub loop-preserved : goal.loop-preserved
loop-preserved c =
    let i = c.loop.invariant in
    let p = c.push_reserved.ensures in record {
      count = omega (arith, p.len, i.count);
      room = omega (arith, p.capacity, i.room);
      made = new_more c.args.room c.args.n c.args.horizon c.loop.counter c.loop.slots.items c.push_reserved.new.self.items c.in_ok-new_quarter.field-0 i.made c.in_ok-new_quarter.ensures p.items;
    }

pub returns : goal.returns
returns c = new_four c.args.room c.args.n c.args.horizon c.loop.counter c.loop.slots.items c.loop.auto.counter-end c.loop-test.false c.loop.invariant.made
