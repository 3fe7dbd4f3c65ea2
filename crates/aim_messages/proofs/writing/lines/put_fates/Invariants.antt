use Rattle.std.proofs.Common.{◌≡◌, ◌+◌, ◌*◌, ◌≤◌, length, drop, take, map}
use Rattle.aim_messages.specs.Lines.{fate_word, fate_words}
use Rattle.aim_messages.specs.Writing.{added}
use Rattle.aim_messages.proofs.writing.lines.put_fates.Given as goal

abbrev pub invariant-loop-fate : goal.invariant-loop-fate
invariant-loop-fate l = record {
  rest : added l.out (map fate_word (drop l.fate-index (take l.fates.len l.fates.fates))) ≡ added l.initial.out (fate_words l.fates);
  len : length l.out ≤ length l.initial.out + 6 * l.fate-index;
}
