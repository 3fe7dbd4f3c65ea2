-- The calls of emergencies, and how they follow a history.
use Rattle.std.specs.Prelude.{◌≡◌, ℕ, ◌+◌, ◌<◌, Bool, false, ◌&&◌, ◌==◌, nat_le, List, length, Option, Some, None, option_and_then, is_none, slice_index_or, if◌then◌else◌}
use Rattle.aim_messages.specs.declared.messages.Params.{Params}
use Rattle.aim_layout.specs.Intersection.{Intersection}
use Rattle.aim_rules.specs.Approach.{calling_at}
use Rattle.aim_rules.specs.Bad.{bad}
use Rattle.aim_rules.specs.History.{Fresh, last_of}

-- whether the call, a lane and an arrival, is of the lane and not past
abbrev pub is_call_in : ℕ → ℕ → ℕ → Option (ℕ × ℕ) → Bool
is_call_in now horizon lane None = false
is_call_in now horizon lane (Some (place, arrive)) = place == lane && nat_le now (arrive + horizon)

-- the lane and the arrival of an emergency that asks, where its params are not bad
abbrev pub call_of : Intersection → Option Params → Option (ℕ × ℕ)
call_of i None = None
call_of i (Some p) = if p.emergency && is_none (bad i p) then Some (p.lane, p.arrive) else None

-- each vehicle's call is that of its last fresh message, while that still calls
abbrev pub AreCalls : Intersection → List (Option (ℕ × ℕ)) → List Fresh → Type 0
AreCalls i calls xs = (v : ℕ) → v < length calls → slice_index_or calls v None ≡ call_of i (option_and_then (calling_at i) (last_of xs v))
