use Rattle.std.proofs.Common.{arith, ◌∙◌}
use Rattle.aim_footprint.proofs.UnderLemmas.{empty_at, under_none, under_more}
use Rattle.aim_footprint.proofs.windows.rows_of.Goals as goal

pub loop-j-init : goal.loop-j-init
loop-j-init c = λ r k rl kl. empty_at r k rl ∙ under_none c.args.rects.now c.args.low r k

pub loop-j-preserved : goal.loop-j-preserved
loop-j-preserved c = λ r k rl kl. c.join.ensures r k rl kl ∙ rw (c.loop-j.invariant r k rl kl, under_more c.args.rects.now c.args.low c.loop-j.j r k (omega arith) (omega arith))
