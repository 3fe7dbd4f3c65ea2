use Rattle.std.proofs.Common.{arith, ◌∙◌}
use Rattle.aim_layout.proofs.Elements.{copied_all, copied_more}
use Rattle.aim_grid_command.proofs.commands.copies_of.Goals as goal

pub loop-layout-preserved : goal.loop-layout-preserved
loop-layout-preserved c =
    let i = c.loop-layout.invariant in
    let p = c.push_reserved.ensures in record {
      count = omega (arith, p.len, i.count);
      room = omega (arith, p.capacity, i.room);
      same = copied_more c.args.layouts.now c.loop-layout.layout-index c.in_ok-copy.field-0 c.layout-item.result c.loop-layout.copies.items c.push_reserved.new.self.items c.loop-layout-test.true i.same (c.in_ok-copy.ensures ∙ c.layout-item.is) p.items;
    }

pub returns : goal.returns
returns c = copied_all c.args.layouts.now c.loop-layout.layout-index c.loop-layout.copies.items c.loop-layout.auto.layout-index-end c.loop-layout-test.false c.loop-layout.invariant.same
