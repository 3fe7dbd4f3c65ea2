use Rattle.std.proofs.Common.{◌≡◌, replicate, arith, refl, ap, ◌∙◌}
use Rattle.aim_layout.proofs.Elements.{same_more}
use Rattle.aim_layout.proofs.builders.no_tiles.Goals as goal

pub loop-preserved : goal.loop-preserved
loop-preserved c =
    let i = c.loop.invariant in
    let p = c.push_reserved.ensures in record {
      count = omega (arith, p.len, i.count);
      room = omega (arith, p.capacity, i.room);
      same = same_more c.loop.counter (replicate 64 0) (replicate 64 0) c.loop.tiles.items c.push_reserved.new.self.items i.same refl p.items;
    }

pub returns : goal.returns
returns c =
    let end : c.loop.counter ≡ c.args.lanes = omega arith in
    c.loop.invariant.same ∙ ap (λ n. replicate n (replicate 64 0)) end
