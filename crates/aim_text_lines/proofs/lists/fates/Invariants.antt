use Rattle.std.proofs.Common.{◌≡◌, ◌≤◌, ◌+◌, ◌-◌, length, take, drop, replicate, []}
use Rattle.aim_text_lines.specs.Steps.{fates_in}
use Rattle.aim_text_lines.proofs.lists.fates.Given as goal

abbrev pub invariant-loop-word : goal.invariant-loop-word
invariant-loop-word l = record {
  same : fates_in (take l.len l.fates) l.words ≡ fates_in [] l.fn.words;
  rest : drop l.len l.fates ≡ replicate (64 - l.len) 0;
  size : length l.fates ≡ 64;
  room : l.len + length l.words ≤ 64;
}

abbrev pub decreases-loop-word : goal.decreases-loop-word
decreases-loop-word l = length l.words
