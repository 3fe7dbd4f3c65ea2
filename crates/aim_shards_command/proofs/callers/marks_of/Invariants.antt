use Rattle.std.proofs.Common.{◌≡◌, ◌≤◌, length, map, take}
use Rattle.std.specs.Prelude.{vec_len, vec_capacity}
use Rattle.aim_shards_command.specs.Calling.{mark_in}
use Rattle.aim_shards_command.proofs.callers.marks_of.Given as goal

abbrev pub invariant-loop-line : goal.invariant-loop-line
invariant-loop-line l = record {
  are : l.marks.items ≡ map mark_in (take l.line-index l.lines);
  count : vec_len l.marks ≡ l.line-index;
  room : length l.lines ≤ vec_capacity l.marks;
}
