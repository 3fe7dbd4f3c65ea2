use Rattle.std.proofs.Common.{◌≡◌, [], ◌≤◌}
use Rattle.std.specs.Prelude.{vec_len, vec_capacity, All}
use Rattle.aim_shards.proofs.opening.rooms.Given as goal

abbrev pub invariant-loop : goal.invariant-loop
invariant-loop l = record {
  each : All (λ s. (s.items ≡ []) × (l.calls ≤ vec_capacity s)) l.rooms.items;
  count : vec_len l.rooms ≡ l.counter;
  room : l.callers ≤ vec_capacity l.rooms;
}
