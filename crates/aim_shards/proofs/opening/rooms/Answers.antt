use Rattle.std.proofs.Common.{◌≡◌, ◌≤◌, [], arith}
use Rattle.std.specs.Prelude.{vec_capacity}
use Rattle.aim_shards.proofs.Numbers.{each_more}
use Rattle.aim_shards.proofs.opening.rooms.Goals as goal

pub loop-preserved : goal.loop-preserved
loop-preserved c =
    let i = c.loop.invariant in
    let p = c.push_reserved.ensures in
    let w = c.in_ok-with_capacity.ensures in record {
      each = each_more (λ s. (s.items ≡ []) × (c.args.calls ≤ vec_capacity s)) c.loop.rooms.items c.push_reserved.new.self.items c.in_ok-with_capacity.field-0 i.each (w.items, w.capacity) p.items;
      count = omega (arith, p.len, i.count);
      room = omega (arith, p.capacity, i.room);
    }
