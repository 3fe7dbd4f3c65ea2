use Rattle.std.proofs.Common.{◌∙◌}
use Rattle.aim_text_words.proofs.ListLaws.{one_passed}
use Rattle.aim_text_words.proofs.words.Words.ahead.Goals as goal

pub loop-preserved : goal.loop-preserved
loop-preserved c = one_passed _ _ _ _ c.loop-test.true c.take.ensures.left ∙ c.loop.invariant
