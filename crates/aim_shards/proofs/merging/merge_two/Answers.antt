use Rattle.std.proofs.Common.{◌++◌, drop, ◌∙◌, ap, inl, inr, arith}
use Rattle.aim_shards.proofs.Merged.{goes_left, goes_right, goes_both, merge_ends, drop_past, rest_all}
use Rattle.aim_shards.proofs.merging.merge_two.Goals.{then-loop-i-test+else-j-right, else-loop-i-test}
use Rattle.aim_shards.proofs.merging.merge_two.Goals as goal

pub loop-i-preserved-then-a-b : goal.loop-i-preserved-then-a-b
loop-i-preserved-then-a-b c =
    let i = c.loop-i.invariant in
    record { within = omega (arith, c.loop-i-test.true); within_too = i.within_too; left = goes_left (c.args.left.now ++ c.args.right.now) c.args.left.now c.args.right.now c.loop-i.merged.items c.push_reserved.new.self.items c.loop-i.i c.loop-i.j _ c.loop-i-test.true c.if-j-right.true i.left c.if-a-b.true c.push_reserved.ensures.items; room = omega (arith, i.room, c.push_reserved.ensures.len, c.push_reserved.ensures.capacity, c.loop-i-test.true) }

pub loop-i-preserved-then-b-a : goal.loop-i-preserved-then-b-a
loop-i-preserved-then-b-a c =
    let i = c.loop-i.invariant in
    record { within = i.within; within_too = omega (arith, c.if-j-right.true); left = goes_right (c.args.left.now ++ c.args.right.now) c.args.left.now c.args.right.now c.loop-i.merged.items c.push_reserved-then-b-a.new.self.items c.loop-i.i c.loop-i.j _ c.loop-i-test.true c.if-j-right.true i.left c.if-b-a.true c.push_reserved-then-b-a.ensures.items; room = omega (arith, i.room, c.push_reserved-then-b-a.ensures.len, c.push_reserved-then-b-a.ensures.capacity, c.if-j-right.true) }

pub loop-i-preserved : goal.loop-i-preserved
loop-i-preserved c =
    let i = c.loop-i.invariant in
    record { within = omega (arith, c.loop-i-test.true); within_too = omega (arith, c.if-j-right.true); left = goes_both (c.args.left.now ++ c.args.right.now) c.args.left.now c.args.right.now c.loop-i.merged.items c.push_reserved-else-b-a.new.self.items c.loop-i.i c.loop-i.j _ c.loop-i-test.true c.if-j-right.true i.left c.requires.one (omega (arith, c.if-a-b.false, c.if-b-a.false)) c.push_reserved-else-b-a.ensures.items; room = omega (arith, i.room, c.push_reserved-else-b-a.ensures.len, c.push_reserved-else-b-a.ensures.capacity, c.loop-i-test.true, c.if-j-right.true) }

pub returns : goal.returns
returns c = merge_ends (c.args.left.now ++ c.args.right.now) c.loop-i.merged.items c.extend_from_slice-2.new.self.items (drop c.loop-i.i c.args.left.now) (drop c.loop-i.j c.args.right.now) c.loop-i.invariant.left
    (elim c.loop-i-test.branch [ then-loop-i-test+else-j-right w ↦ inr (drop_past c.args.right.now c.loop-i.j (omega (arith, w.if-j-right.false))) | else-loop-i-test w ↦ inl (drop_past c.args.left.now c.loop-i.i (omega (arith, w.loop-i-test.false))) ])
    (c.in_ok-extend_from_slice-2.ensures.items ∙ (λ k. (c.in_ok-extend_from_slice.ensures.items ∙ ap (λ l. c.loop-i.merged.items ++ l) (rest_all c.args.left.now c.loop-i.i)) k ++ rest_all c.args.right.now c.loop-i.j k))
