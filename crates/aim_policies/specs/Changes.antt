-- What contracts see of a timeline.
use Rattle.std.specs.Prelude.{ℕ, ◌-◌, Bool, ◌&&◌, List, length, slice_index_or, Option}
use Rattle.aim_geometry.specs.Bounded.{some_below}
use Rattle.aim_layout.specs.Intersection.{Intersection}
use Rattle.aim_geometry.specs.Cells.{Cell}
use Rattle.aim_rules.specs.Timeline.{InForce}
use Rattle.aim_rules.specs.Lights.{green_at}
use Rattle.aim_rules.specs.Kept.{policy_in}
use Rattle.aim_rules.specs.Claims.{is_claimed_by}
use Rattle.aim_policies.specs.Claimed.{is_other}

-- the changes of policy that were pushed, in their order, and how many may be
pub record Changes : Type 0 where
  pub pushed : List InForce
  pub room : ℕ

-- what is in force before the first change
abbrev pub start : InForce
start = record { policy = 0; from = 0 }

-- the step from which the last change is in force, or 0
abbrev pub latest : List InForce → ℕ
latest fs = (slice_index_or fs (length fs - 1) start).from

-- the set of lanes that are green at a step, by the changes
abbrev pub green_in : Intersection → List InForce → ℕ → ℕ
green_in i fs s = green_at i (policy_in fs) s

-- whether a lane, other than the one that may be excepted, claims the cell, where policies are in force so
abbrev pub is_claimed_for : Intersection → (ℕ → InForce) → Option ℕ → Cell → Bool
is_claimed_for i policy except c = some_below (length i.lanes) (λ lane. is_other except lane && is_claimed_by i policy lane c)
