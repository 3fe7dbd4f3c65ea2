use Rattle.std.proofs.Common.{◌≡◌, ◌≤◌, map, length, vec_len, Some}
use Rattle.std.specs.Prelude.{vec_capacity}
use Rattle.aim_grid.specs.Agents.{AgentPass}
use Rattle.aim_grid.proofs.seats.Seats.new.Given as goal

abbrev pub invariant-loop-pass : goal.invariant-loop-pass
invariant-loop-pass l = record {
  count : vec_len l.held ≡ length l.yielded;
  room : vec_len l.fn.passes ≤ vec_capacity l.held;
  items : l.held.items ≡ map (λ (p : AgentPass). Some p) l.yielded;
}
