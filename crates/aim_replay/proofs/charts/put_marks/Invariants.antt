use Rattle.std.proofs.Common.{◌≡◌, length, take, map}
use Rattle.std.specs.List.{range_with_len}
use Rattle.aim_replay.specs.Charted.{mark_of}
use Rattle.aim_replay.proofs.charts.put_marks.Given as goal

abbrev pub invariant-loop-col : goal.invariant-loop-col
invariant-loop-col l = record {
  long : length l.line ≡ 65;
  text : take l.col l.line ≡ map (mark_of l.held l.claimed) (range_with_len 0 l.col);
}
