use Rattle.std.proofs.Common.{◌≡◌, length}
use Rattle.std.specs.List.{list_all}
use Rattle.aim_text_words.specs.Faults.{is_digit, value_after, value_of}
use Rattle.aim_text_words.proofs.numbers.value_up_to.Given as goal

abbrev pub invariant-loop-digits : goal.invariant-loop-digits
invariant-loop-digits l = record {
  digits : list_all is_digit l.word ≡ list_all is_digit l.digits;
  same : value_after l.value l.digits ≡ value_of l.word;
}

abbrev pub decreases-loop-digits : goal.decreases-loop-digits
decreases-loop-digits l = length l.digits
