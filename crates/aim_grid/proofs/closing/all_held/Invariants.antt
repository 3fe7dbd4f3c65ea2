use Rattle.std.proofs.Common.{◌≡◌, ◌≤◌, map, length, vec_len, Some}
use Rattle.std.specs.Prelude.{vec_capacity}
use Rattle.aim_grid.specs.Agents.{AgentPass}
use Rattle.aim_grid.proofs.closing.all_held.Given as goal

abbrev pub invariant-loop-one : goal.invariant-loop-one
invariant-loop-one l = record {
  count : vec_len l.passes ≡ length l.yielded;
  room : vec_len l.fn.held ≤ vec_capacity l.passes;
  items : l.yielded ≡ map (λ (p : AgentPass). Some p) l.passes.items;
}
