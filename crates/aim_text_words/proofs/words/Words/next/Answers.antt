use Rattle.std.proofs.Common.{arith, ap}
use Rattle.aim_text_words.proofs.Splits.{word_alone, word_before}
use Rattle.aim_text_words.specs.Steps.{words_left}
use Rattle.aim_text_words.proofs.words.Words.next.Goals as goal

pub returns-then-i-bytes : goal.returns-then-i-bytes
returns-then-i-bytes c =
    let left = ap words_left c.in_ok-bytes.was in
    let split = word_before c.in_ok-bytes.bytes.now _ c.space-i.ensures.before c.if-i-bytes.true (c.space-i.ensures.found c.if-i-bytes.true) in
    let view = c.self.view_is in
    cc

pub returns-else-i-bytes : goal.returns-else-i-bytes
returns-else-i-bytes c =
    let left = ap words_left c.in_ok-bytes.was in
    let whole = word_alone c.in_ok-bytes.bytes.now (λ k below. c.space-i.ensures.before k (omega arith)) in
    let view = c.self.view_is in
    cc
