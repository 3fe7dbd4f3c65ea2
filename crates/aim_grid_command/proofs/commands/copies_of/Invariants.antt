use Rattle.std.proofs.Common.{◌≡◌, ◌≤◌, length, take, vec_len}
use Rattle.std.specs.Prelude.{vec_capacity}
use Rattle.aim_grid_command.proofs.commands.copies_of.Given as goal

abbrev pub invariant-loop-layout : goal.invariant-loop-layout
invariant-loop-layout l = record {
  count : vec_len l.copies ≡ l.layout-index;
  room : length l.layouts ≤ vec_capacity l.copies;
  same : l.copies.items ≡ take l.layout-index l.layouts;
}
