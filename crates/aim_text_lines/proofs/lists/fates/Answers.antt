use Rattle.std.proofs.Common.{◌≡◌, ap, sym, ◌∙◌, arith, length, take, ◌∷◌}
use Rattle.std.proofs.Math.ListN.{length-set}
use Rattle.aim_text_lines.specs.Steps.{fates_in}
use Rattle.aim_text_lines.proofs.ListLaws.{fates_next, zeros_next, fates_end}
use Rattle.aim_text_lines.proofs.lists.fates.Goals as goal

pub loop-word-preserved : goal.loop-word-preserved
loop-word-preserved c =
    let one : length c.loop-word.words ≡ length (c.in-Some.word.now ∷ c.next.new.self) = ap length c.in-Some.ensures in
    let next = fates_next c.loop-word.fates c.loop-word.len c.in-Some.word.now c.next.new.self c.in_ok-fates.field-0 c.loop-word.invariant.size (omega arith) c.in_ok-fates.ensures in
    record {
      same = sym next ∙ ap (fates_in (take c.loop-word.len c.loop-word.fates)) (sym c.in-Some.ensures) ∙ c.loop-word.invariant.same;
      rest = zeros_next c.loop-word.fates c.loop-word.len c.in_ok-fates.field-0 c.loop-word.invariant.rest;
      room = omega arith;
      size = length-set c.loop-word.fates c.loop-word.len c.in_ok-fates.field-0 ∙ c.loop-word.invariant.size;
    }

pub returns : goal.returns
returns c =
    let end = fates_end c.loop-word.fates c.loop-word.len c.loop-word.invariant.size (omega arith) c.loop-word.invariant.rest in
    sym end ∙ ap (fates_in (take c.loop-word.len c.loop-word.fates)) (sym c.in_default.ensures.0) ∙ c.loop-word.invariant.same
