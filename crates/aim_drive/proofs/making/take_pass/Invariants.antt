use Rattle.std.proofs.Common.{◌≡◌, ◌≢◌, ℕ, ◌-◌, ◌<◌, length, get_or}
use Rattle.aim_agents.specs.Agents.{AgentPass}
use Rattle.aim_drive.proofs.making.take_pass.Given as goal

abbrev pub invariant-loop-place : goal.invariant-loop-place
invariant-loop-place l = record {
  same : l.passes.items ≡ l.fn.passes.items;
  none : (k : ℕ) (d : AgentPass) → k < l.place → (get_or l.fn.passes.items k d).number ≢ l.vehicle;
}

abbrev pub decreases-loop-place : goal.decreases-loop-place
decreases-loop-place l = length l.fn.passes.items - l.place
