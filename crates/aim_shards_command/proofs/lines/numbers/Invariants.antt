use Rattle.std.proofs.Common.{◌≡◌, ◌≤◌, ◌+◌, ◌++◌, length, map}
use Rattle.aim_text_words.specs.Faults.{value_of}
use Rattle.aim_shards_command.specs.Lines.{numbers_fault}
use Rattle.aim_shards_command.proofs.lines.numbers.Given as goal

abbrev pub invariant-loop-word : goal.invariant-loop-word
invariant-loop-word l = record {
  values : l.numbers.items ++ map value_of l.words ≡ map value_of l.fn.words;
  fault : numbers_fault l.words ≡ numbers_fault l.fn.words;
  room : length l.numbers.items + length l.words ≤ 6;
}

abbrev pub decreases-loop-word : goal.decreases-loop-word
decreases-loop-word l = length l.words
