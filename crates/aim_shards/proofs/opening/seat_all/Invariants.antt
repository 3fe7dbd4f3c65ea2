use Rattle.std.proofs.Common.{◌≡◌, [], ◌+◌, ◌≤◌, length, map, take, drop}
use Rattle.std.specs.Prelude.{vec_len, vec_capacity, All}
use Rattle.aim_shards.specs.Models.{new_pass}
use Rattle.aim_shards.specs.Ruled.{keeping, blank, terms_of}
use Rattle.aim_shards.proofs.opening.seat_all.Given as goal

abbrev pub invariant-loop-number : goal.invariant-loop-number
invariant-loop-number l = record {
  desk : l.root.table_id ≡ l.desk.shared.table_id;
  root : l.root.me ≡ (keeping (terms_of l.desk.shared.key.sets.value.items l.numbers.items l.calls) (blank (drop l.number-index l.numbers.items)), []);
  passes : l.passes.items ≡ map (new_pass record { table = l.desk.shared.table_id; size = l.desk.shared.key.size; sets = l.desk.shared.key.sheets.value.items; quarters = l.desk.shared.key.sets.value.items; numbers = l.desk.shared.key.numbers.value.items; calls = l.desk.shared.key.calls }) (take l.number-index l.numbers.items);
  count : vec_len l.passes ≡ l.number-index;
  room : length l.numbers.items ≤ vec_capacity l.passes;
  left : length l.standings.items + l.number-index ≡ length l.numbers.items;
  standings : All (λ s. (s.items ≡ []) × (l.calls ≤ vec_capacity s)) l.standings.items;
}
