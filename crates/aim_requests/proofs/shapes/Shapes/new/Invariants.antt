use Rattle.std.proofs.Common.{◌≡◌, ◌+◌, ◌*◌, ◌≤◌, vec_len, vec_capacity}
use Rattle.aim_requests.specs.Shapes.{ArePreparedFor}
use Rattle.aim_requests.proofs.shapes.Shapes.new.Given as goal

abbrev pub invariant-loop : goal.invariant-loop
invariant-loop l = record {
  known : ArePreparedFor l.layout l.slots.items;
  room : l.count ≤ vec_capacity l.slots;
  len : vec_len l.slots ≡ l.counter;
  sheets : l.pool.count + 2 * l.counter ≡ 2 * l.count;
  of_room : l.pool.room ≡ l.layout.grid.spans;
}
