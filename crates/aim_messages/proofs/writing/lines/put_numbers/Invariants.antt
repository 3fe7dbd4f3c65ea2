use Rattle.std.proofs.Common.{◌≡◌, ◌+◌, ◌*◌, ◌≤◌, length, drop, map, decimal}
use Rattle.aim_messages.specs.Writing.{added}
use Rattle.aim_messages.proofs.writing.lines.put_numbers.Given as goal

abbrev pub invariant-loop-n : goal.invariant-loop-n
invariant-loop-n l = record {
  rest : added l.out (map decimal (drop l.n-index l.numbers)) ≡ added l.fn.out (map decimal l.numbers);
  len : length l.out ≤ length l.fn.out + 11 * l.n-index;
}
