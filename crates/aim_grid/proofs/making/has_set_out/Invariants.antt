use Rattle.std.proofs.Common.{◌≢◌, ℕ, ◌<◌, get_or}
use Rattle.aim_grid.specs.Models.{TravellerModel}
use Rattle.aim_grid.proofs.making.has_set_out.Given as goal

abbrev pub invariant-loop-traveller : goal.invariant-loop-traveller
invariant-loop-traveller l = (k : ℕ) (d : TravellerModel) → k < l.traveller-index → (get_or l.travellers k d).vehicle ≢ l.vehicle
