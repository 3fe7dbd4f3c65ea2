-- The trials of a request: the crossings of which the first that is free is granted.
use Rattle.std.specs.Prelude.{ℕ, ◌+◌, ◌-◌, Bool, true, false, ◌&&◌, nat_lt, nat_le, List, [], ◌∷◌, ◌++◌, map, Option, Some, None, if◌then◌else◌}
use Rattle.std.specs.List.{range_with_len}
use Rattle.aim_messages.specs.declared.messages.Params.{Params}
use Rattle.aim_messages.specs.declared.replies.Reply.{Reply}
use Rattle.aim_messages.specs.declared.replies.Reply.TheVariants as reply
use Rattle.aim_geometry.specs.Cells.{Cell}
use Rattle.aim_layout.specs.Intersection.{Intersection}
use Rattle.aim_rules.specs.Cells.{in_cells, cells}

-- a crossing that may be granted: the step of its arrival, and whether the vehicle accelerates
pub record Trial : Type 0 where
  pub start : ℕ
  pub fast : Bool

-- the params with that arrival, and no later one
abbrev pub arriving_at : Params → ℕ → Params
arriving_at p s = record p { arrive = s; latest = s }

-- whether the trial needs the cell
abbrev pub in_trial : Intersection → Params → Trial → Cell → Bool
in_trial i p t = in_cells i (arriving_at p t.start) t.fast

-- the cells that the trial needs, by step, row and column
abbrev pub trial_cells : Intersection → Params → Trial → List Cell
trial_cells i p t = cells i (arriving_at p t.start) t.fast

-- from version 4 on a request has a window of arrivals, and one trial at each
abbrev pub has_windows : Intersection → Bool
has_windows i = nat_le 4 i.version

-- the fast trial is made only where it differs from the steady one
abbrev pub is_fast_made : Params → Bool
is_fast_made p = nat_lt 0 p.accel && nat_lt p.speed p.max_speed

-- the trial at the arrival by which a request is judged before it is granted: the last that is made there
abbrev pub judged : Intersection → Params → Trial
judged i p = record { start = p.arrive; fast = has_windows i && is_fast_made p }

-- the fast trial, where it is made
abbrev pub fast_first : Params → List Trial
fast_first p = if is_fast_made p then record { start = p.arrive; fast = true } ∷ [] else []

-- The trials of a request, in the order in which they are tried: each arrival of its window, or else the fast and the
-- steady trial at its only one.
abbrev pub candidates : Intersection → Params → List Trial
candidates i p =
    if has_windows i then map (λ s. record { start = s; fast = is_fast_made p }) (range_with_len p.arrive (p.latest + 1 - p.arrive))
    else fast_first p ++ record { start = p.arrive; fast = false } ∷ []

-- the trial that an answer grants
abbrev pub granted_trial : Reply → Option Trial
granted_trial (reply.Confirm id start before after accelerate end) = Some (record { start = start; fast = accelerate })
granted_trial _ = None
