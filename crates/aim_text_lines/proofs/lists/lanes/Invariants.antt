use Rattle.std.proofs.Common.{◌≡◌, ◌≤◌, ◌<◌, ◌^◌, length}
use Rattle.aim_text_lines.specs.Steps.{lanes_in}
use Rattle.aim_text_lines.proofs.lists.lanes.Given as goal

abbrev pub invariant-loop-word : goal.invariant-loop-word
invariant-loop-word l = record {
  same : lanes_in l.lanes l.low l.words ≡ lanes_in 0 0 l.fn.words;
  below : l.lanes < 2 ^ l.low;
  low : l.low ≤ 16;
}

abbrev pub decreases-loop-word : goal.decreases-loop-word
decreases-loop-word l = length l.words
