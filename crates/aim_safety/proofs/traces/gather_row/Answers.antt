use Rattle.std.proofs.Common.{arith, ◌∙◌}
use Rattle.std.proofs.lemmas.List.{length-set}
use Rattle.aim_safety.proofs.TraceLemmas.{gathered_more, unset_more}
use Rattle.aim_safety.proofs.traces.gather_row.Goals as goal

pub loop-k-preserved : goal.loop-k-preserved
loop-k-preserved c =
    let i = c.loop-k.invariant in
    let steps = c.args.steps.now in
    record {
      never = λ col. unset_more steps c.loop-k.k c.args.row c.loop-k.shown col (i.never col);
      gathered = gathered_more steps c.loop-k.masks c.loop-k.k c.args.row (omega (arith, i.size, c.loop-k-test.true, c.requires.few)) i.gathered;
      size = length-set c.loop-k.masks c.loop-k.k _ ∙ i.size;
    }
