-- The phases of a policy, and the lanes that are green at a step.
use Rattle.std.specs.Prelude.{ℕ, ◌+◌, ◌-◌, ◌%◌, nat_lt, List, [], ◌∷◌, sum_by, slice_get, Option, Some, None, if◌then◌else◌}
use Rattle.aim_layout.specs.declared.policies.Phase.{Phase}
use Rattle.aim_layout.specs.Intersection.{Intersection, Policy}
use Rattle.aim_layout.specs.Policies.{has_lights}
use Rattle.aim_rules.specs.Timeline.{InForce}

-- the set of lanes that are green at an offset into one round of the phases, each first red, then green
abbrev pub lit : List Phase → ℕ → ℕ
lit [] o = 0
lit (p ∷ ps) o =
    if nat_lt o p.red then 0
    else if nat_lt o (p.red + p.green) then p.lanes
    else lit ps (o - (p.red + p.green))

-- the steps of one round of the phases
abbrev pub round : List Phase → ℕ
round phases = sum_by (λ p. p.red + p.green) phases

-- the set of lanes that a policy has green at an offset, its phases going round for ever
abbrev pub green_lanes : Option Policy → ℕ → ℕ
green_lanes None o = 0
green_lanes (Some p) o = if has_lights p.kind then lit p.phases (o % round p.phases) else 0

-- the set of lanes that are green at a step, where the policies in force are these
abbrev pub green_at : Intersection → (ℕ → InForce) → ℕ → ℕ
green_at i policy s = let f = policy s in green_lanes (slice_get i.policies f.policy) (s - f.from)
