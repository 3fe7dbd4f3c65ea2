use Rattle.std.proofs.Common.{◌≡◌, ◌≤◌, length, vec_len}
use Rattle.std.specs.Prelude.{vec_capacity}
use Rattle.std.specs.List.{AllZip}
use Rattle.aim_grid.proofs.Returning.{IsLeftOf}
use Rattle.aim_grid.proofs.making.Crossings.close.Given as goal

abbrev pub invariant-loop-manager : goal.invariant-loop-manager
invariant-loop-manager l = record {
  count : vec_len l.left ≡ length l.yielded;
  room : vec_len l.fn.self.managers ≤ vec_capacity l.left;
  left : AllZip IsLeftOf l.yielded l.left.items;
}
