use Rattle.aim_messages.specs.Lines.{fate_word}
use Rattle.aim_messages.proofs.Words.{first_words_on, one_on}
use Rattle.aim_messages.proofs.writing.lines.put_fates.Goals as goal

pub loop-fate-preserved : goal.loop-fate-preserved
loop-fate-preserved c = record {
  rest = first_words_on fate_word c.loop-fate.out c.put_fate.new.out _ c.args.fates.now.fates c.args.fates.now.len c.from.result c.loop-fate.fate-index c.from.ensures c.loop-fate-test.true c.put_fate.ensures.added c.loop-fate.invariant.rest;
  len = one_on c.put_form.new.out c.loop-fate.out c.put_fate.new.out 6 c.loop-fate.fate-index c.loop-fate.invariant.len c.put_fate.ensures.len;
}
