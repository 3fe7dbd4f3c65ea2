use Rattle.std.proofs.Common.{◌≡◌, ◌≤◌, ◌*◌, ◌||◌, ℕ, drop}
use Rattle.aim_layout.specs.Policies.{has_lane}
use Rattle.aim_policies.specs.Windows.{is_met}
use Rattle.aim_policies.proofs.plans.met_lanes.Given as goal

abbrev pub invariant-loop-phase : goal.invariant-loop-phase
invariant-loop-phase l = record {
  lanes : (lane : ℕ) → (has_lane l.lanes lane || is_met l.from l.to l.round l.end (drop l.phase-index l.phases) lane) ≡ is_met l.from l.to l.round 0 l.phases lane;
  most : l.end ≤ 131072 * l.phase-index;
}
