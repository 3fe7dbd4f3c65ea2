use Rattle.std.proofs.Common.{ℕ, ◌<◌, ◌≤◌, get_or}
use Rattle.aim_agents.specs.Agents.{Idles}
use Rattle.aim_grid.specs.Models.{TravellerModel}
use Rattle.aim_grid.proofs.travelling.wakes_at.Given as goal

abbrev pub invariant-loop-traveller : goal.invariant-loop-traveller
invariant-loop-traveller l = (k : ℕ) (d : TravellerModel) → k < l.traveller-index → (t : ℕ) → l.step ≤ t → t < l.least → Idles (get_or l.travellers k d).agent t
