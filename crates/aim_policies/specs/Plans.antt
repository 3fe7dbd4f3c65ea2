-- Light policies, and the lanes that are green at some offset of several.
use Rattle.std.specs.Prelude.{◌≡◌, ℕ, ◌+◌, ◌-◌, ◌<◌, ◌≤◌, Bool, true, List, [], length, slice_get, Option, Some, None, if◌then◌else◌}
use Rattle.std.specs.List.{list_any, range_with_len}
use Rattle.aim_layout.specs.declared.policies.Phase.{Phase}
use Rattle.aim_layout.specs.Intersection.{Policy}
use Rattle.aim_layout.specs.Policies.{has_lights, has_lane}
use Rattle.aim_rules.specs.Lights.{green_lanes}

-- the policy, if it is a light one
abbrev pub lights_of : Option Policy → Option Policy
lights_of None = None
lights_of (Some p) = if has_lights p.kind then Some p else None

-- whether the lane is green at some offset from the first to the last
abbrev pub is_green_within : Policy → ℕ → ℕ → ℕ → Bool
is_green_within p first last lane =
    list_any (λ o. has_lane (green_lanes (Some p) o) lane) (range_with_len first (last + 1 - first))

-- a phase's numbers are in their ranges
pub record IsInRange (f : Phase) : Type 0 where
  pub red : f.red ≤ 65536
  pub some_green : 0 < f.green
  pub green : f.green ≤ 65536

abbrev pub AreInRange : List Phase → Type 0
AreInRange phases = (j : ℕ) (f : Phase) → slice_get phases j ≡ Some f → IsInRange f

-- a light policy, of 1 to 16 phases
pub record IsPlan (p : Policy) : Type 0 where
  pub lights : has_lights p.kind ≡ true
  pub some : 0 < length p.phases
  pub most : length p.phases ≤ 16
  pub each : AreInRange p.phases

-- the phases of the policy that may be there
abbrev pub phases_of : Option Policy → List Phase
phases_of None = []
phases_of (Some p) = p.phases
