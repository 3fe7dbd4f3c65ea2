use Rattle.std.proofs.Common.{◌≡◌, [], ◌≤◌, length, map, take, drop}
use Rattle.std.specs.Prelude.{vec_len, vec_capacity}
use Rattle.aim_turnstile.specs.Models.{new_pass}
use Rattle.aim_turnstile.specs.Turned.{dealing_view}
use Rattle.aim_turnstile.proofs.turnstile.deal.Given as goal

abbrev pub invariant-loop-number : goal.invariant-loop-number
invariant-loop-number g l = record {
  desk : l.root.table_id ≡ l.desk.shared.table_id;
  root : l.root.me ≡ (dealing_view (g.K.Kept.setting l.desk.shared.key.kept.value) l.numbers (drop l.number-index l.numbers), []);
  passes : l.passes.items ≡ map (new_pass record { table = l.desk.shared.table_id; setting = g.K.Kept.setting l.desk.shared.key.kept.value; numbers = l.numbers }) (take l.number-index l.numbers);
  count : vec_len l.passes ≡ l.number-index;
  room : length l.numbers ≤ vec_capacity l.passes;
}
