-- Steps in which no traveller has anything to do.
use Rattle.std.proofs.Common.{ℕ, ◌+◌, ◌<◌, List, get_or, refl, arith}
use Rattle.aim_grid.specs.Models.{TravellerModel}
use Rattle.aim_grid.specs.Rode.{Managers}
use Rattle.aim_grid.specs.Travels.{AllIdle, Travels}
use Rattle.aim_grid.proofs.Along.{idled}
use Rattle.aim_grid.proofs.Runs.{travels_then, all_ready}

-- they went from `first` up to `step`, and nothing is to be done below the step `wake`
pub record Going (ms : Managers) (first step wake : ℕ) (ts us : List TravellerModel) : Type 0 where
  pub travels : Travels ms first step ts us
  pub idle : AllIdle step wake us

pub going_idle : (ms : Managers) (first step wake : ℕ) (ts us : List TravellerModel) → step < wake → Going ms first step wake ts us → Going ms first (step + 1) wake ts us
going_idle ms first step wake ts us lt g = record {
  travels = travels_then ms first step (step + 1) ts us us g.travels
      (record { len = refl; each = λ k d l. idled ms step (get_or us k d) (all_ready ms first step ts us g.travels k d l) (g.idle k d l step (omega arith) lt) });
  idle = λ k d l t lo hi. g.idle k d l t (omega arith) hi;
}
