use Rattle.std.proofs.Common.{◌≡◌, ℕ, ◌≤◌, ◌||◌}
use Rattle.aim_layout.specs.Policies.{has_lane}
use Rattle.aim_policies.specs.Changes.{green_in}
use Rattle.aim_policies.proofs.Windows.{at_some}
use Rattle.aim_policies.proofs.timelines.Timeline.claimants.Given as goal

abbrev pub invariant-windows : goal.invariant-windows
invariant-windows l = record {
  some : l.first ≤ l.last;
  most : l.last ≤ l.step;
  lanes : (lane : ℕ) → at_some (λ s. has_lane (green_in l.layout l.self.pushed s) lane) l.first l.step
      ≡ (has_lane l.lanes lane || at_some (λ s. has_lane (green_in l.layout l.self.pushed s) lane) l.first l.last);
}

abbrev pub decreases-windows : goal.decreases-windows
decreases-windows l = l.last
