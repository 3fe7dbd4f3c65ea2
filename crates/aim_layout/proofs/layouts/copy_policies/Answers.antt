use Rattle.std.proofs.Common.{arith, ◌∙◌}
use Rattle.aim_layout.proofs.Elements.{copied_all, copied_more}
use Rattle.aim_layout.proofs.layouts.copy_policies.Goals as goal

pub loop-policy-preserved : goal.loop-policy-preserved
loop-policy-preserved c =
    let i = c.loop-policy.invariant in
    let p = c.push_reserved.ensures in record {
      count = omega (arith, p.len, i.count);
      room = omega (arith, p.capacity, i.room);
      same = copied_more c.args.policies.now c.loop-policy.policy-index c.copy.result c.policy-item.result c.loop-policy.copies.items c.push_reserved.new.self.items c.loop-policy-test.true i.same (c.copy.ensures ∙ c.policy-item.is) p.items;
    }

pub returns : goal.returns
returns c = copied_all c.args.policies.now c.loop-policy.policy-index c.loop-policy.copies.items c.loop-policy.auto.policy-index-end c.loop-policy-test.false c.loop-policy.invariant.same
