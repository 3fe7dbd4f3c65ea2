-- The first and the last station under a vehicle in each step of its crossing.
use Rattle.std.specs.Prelude.{ℕ, Bool, ◌≡◌, ◌<◌, ◌≤◌, ◌+◌, ◌-◌, ◌/◌, min, List, length, get_or}
use Rattle.aim_messages.specs.declared.messages.Params.{Params}
use Rattle.aim_geometry.specs.Bounded.{ceil_div}
use Rattle.aim_layout.specs.Intersection.{Intersection, stations}
use Rattle.aim_rules.specs.Motion.{front}
use Rattle.aim_rules.specs.Footprint.{crossing_steps}
use Rattle.aim_footprint.specs.declared.reaches.Reach.{Reach}

abbrev pub reach_at : List Reach → ℕ → Reach
reach_at reaches k = get_or reaches k (record { low = 0; high = 0 })

-- the stations stay on a path of so many, and rise, and each step goes on from where the one before it ended
pub record AreReaches (count : ℕ) (reaches : List Reach) : Type 0 where
  pub order : (k : ℕ) → k < length reaches → (reach_at reaches k).low ≤ (reach_at reaches k).high
  pub within : (k : ℕ) → k < length reaches → (reach_at reaches k).high < count
  pub low_rises : (j k : ℕ) → j ≤ k → k < length reaches → (reach_at reaches j).low ≤ (reach_at reaches k).low
  pub high_rises : (j k : ℕ) → j ≤ k → k < length reaches → (reach_at reaches j).high ≤ (reach_at reaches k).high
  pub joined : (k : ℕ) → k + 1 < length reaches → (reach_at reaches (k + 1)).low ≤ (reach_at reaches k).high + 1

-- the first and the last station that the vehicle covers in crossing step k
abbrev pub reach_of : Intersection → Params → Bool → ℕ → Reach
reach_of i p fast k = record {
  low = (front p fast k - p.length) / i.grid.spacing;
  high = min (ceil_div (front p fast (k + 1)) i.grid.spacing) (length (stations i p.lane p.turn) - 1);
}

-- the reaches are those of the crossing's steps
pub record AreReachesOf (i : Intersection) (p : Params) (fast : Bool) (reaches : List Reach) : Type 0 where
  pub count : length reaches ≡ crossing_steps i p fast
  pub order : AreReaches (length (stations i p.lane p.turn)) reaches
  pub each : (k : ℕ) → k < length reaches → reach_at reaches k ≡ reach_of i p fast k
