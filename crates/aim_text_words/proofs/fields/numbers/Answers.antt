use Rattle.std.proofs.Common.{ℕ, subst, sym, ◌∙◌, arith}
use Rattle.std.proofs.Math.ListN.{length-set}
use Rattle.aim_text_words.specs.Faults.{number32, value_of}
use Rattle.aim_text_words.specs.Steps.{Gives, read_in}
use Rattle.aim_text_words.proofs.ListLaws.{numbers_next}
use Rattle.aim_text_words.proofs.fields.numbers.Goals as goal

pub loop-i-preserved : goal.loop-i-preserved
loop-i-preserved g c =
    let read = subst (λ r. Gives {A = ℕ} r c.number32.new.words (read_in number32 value_of c.loop-i.words)) c.in_ok-numbers.was c.number32.ensures in
    record {
      same =
          sym (numbers_next c.loop-i.numbers c.loop-i.i g.row.N c.loop-i.words c.in_ok-numbers.field-0 c.number32.new.words (omega (arith, c.loop-i.invariant.size)) (omega arith) read)
          ∙ c.loop-i.invariant.same;
      size = length-set c.loop-i.numbers c.loop-i.i c.in_ok-numbers.field-0 ∙ c.loop-i.invariant.size;
    }
