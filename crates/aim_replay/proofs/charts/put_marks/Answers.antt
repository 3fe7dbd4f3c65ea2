use Rattle.std.proofs.Common.{arith, sym, ◌∙◌}
use Rattle.std.proofs.lemmas.List.{take_more_set, length-set}
use Rattle.std.proofs.lemmas.List.FromFn.{map-range_with_len_more}
use Rattle.aim_replay.specs.Charted.{mark_of}
use Rattle.aim_replay.proofs.charts.put_marks.Goals as goal

pub loop-col-preserved : goal.loop-col-preserved
loop-col-preserved c =
    let long = c.loop-col.invariant.long in
    record {
      long = omega (arith, length-set c.loop-col.line c.loop-col.col c.mark.result);
      text = take_more_set c.loop-col.line c.loop-col.col c.mark.result (omega arith)
          ∙ rw (c.loop-col.invariant.text, c.mark.ensures) (sym (map-range_with_len_more (mark_of c.args.held c.args.claimed) 0 c.loop-col.col c.loop-col.col (omega arith)));
    }
