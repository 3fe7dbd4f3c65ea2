use Rattle.std.proofs.Common.{◌^◌, ◌≤◌, ap, sym, ◌∙◌, arith}
use Rattle.std.proofs.Math.Pow.{pow_mono}
use Rattle.aim_text_lines.specs.Steps.{lanes_in}
use Rattle.aim_text_lines.proofs.ListLaws.{IsWithin, number_within, lane_bit, lanes_next, twice}
use Rattle.aim_text_lines.proofs.lists.lanes.Goals as goal

pub loop-word-preserved : goal.loop-word-preserved
loop-word-preserved c =
    let within : IsWithin c.loop-word.low 15 c.in-Some.word.now c.in_ok-lane.lane = number_within _ _ _ _ c.in_ok-lane.ensures in
    let bit = lane_bit c.in_ok-lane.lane within.most in
    let next = lanes_next c.loop-word.lanes c.loop-word.low c.in-Some.word.now c.next.new.self c.in_ok-lane.lane c.in_ok-lane.ensures in
    let more : 2 ^ c.loop-word.low ≤ 2 ^ c.in_ok-lane.lane = pow_mono within.least in
    record {
      same = rw bit (sym next ∙ ap (lanes_in c.loop-word.lanes c.loop-word.low) (sym c.in-Some.ensures) ∙ c.loop-word.invariant.same);
      below = rw bit (omega (arith, twice c.in_ok-lane.lane));
      low = omega arith;
    }
