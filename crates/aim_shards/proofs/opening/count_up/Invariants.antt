use Rattle.std.proofs.Common.{◌≡◌, ◌≤◌}
use Rattle.std.specs.Prelude.{vec_len, vec_capacity}
use Rattle.aim_shards.specs.Models.{count_up}
use Rattle.aim_shards.proofs.opening.count_up.Given as goal

abbrev pub invariant-loop-number : goal.invariant-loop-number
invariant-loop-number l = record {
  items : l.numbers.items ≡ count_up l.number;
  count : vec_len l.numbers ≡ l.number;
  room : l.callers ≤ vec_capacity l.numbers;
}
