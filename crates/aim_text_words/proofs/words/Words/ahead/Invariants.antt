use Rattle.std.proofs.Common.{◌≡◌, ◌-◌}
use Rattle.aim_text_words.specs.Faults.{word_at}
use Rattle.aim_text_words.proofs.words.Words.ahead.Given as goal

abbrev pub invariant-loop : goal.invariant-loop
invariant-loop l = word_at l.words (l.count - l.counter) ≡ word_at l.self l.count
