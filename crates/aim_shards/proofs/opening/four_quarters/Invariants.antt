use Rattle.std.proofs.Common.{◌≡◌, ◌≤◌}
use Rattle.std.specs.Prelude.{vec_len, vec_capacity}
use Rattle.aim_shards.proofs.Quarters.{AreNew}
use Rattle.aim_shards.proofs.opening.four_quarters.Given as goal

abbrev pub invariant-loop : goal.invariant-loop
invariant-loop l = record {
  count : vec_len l.slots ≡ l.counter;
  room : 4 ≤ vec_capacity l.slots;
  made : AreNew l.room l.n l.horizon l.counter l.slots.items;
}
