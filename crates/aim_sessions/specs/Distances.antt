-- The least refused distance of each lane, or none, and how it follows a history.
use Rattle.std.specs.Prelude.{◌≡◌, ℕ, ◌<◌, nat_lt, List, Option, Some, None, slice_index_or, slice_set, if◌then◌else◌}
use Rattle.aim_messages.specs.declared.messages.Params.{Params}
use Rattle.aim_messages.specs.declared.replies.Reply.{Reply}
use Rattle.aim_geometry.specs.Bounded.{min_with}
use Rattle.aim_rules.specs.History.{Fresh, is_confirm, params_at}
use Rattle.aim_rules.specs.Distance.{asked_from, is_blocked_reply, reservation_distance}

-- the lane's distance, if the one that is asked from exceeds it
abbrev pub exceeded : ℕ → Option ℕ → Option ℕ
exceeded distance None = None
exceeded distance (Some least) = if nat_lt least distance then Some least else None

-- what is kept for each of 16 lanes is its reservation distance
abbrev pub AreDistances : List (Option ℕ) → List Fresh → Type 0
AreDistances ds xs = (lane : ℕ) → lane < 16 → slice_index_or ds lane None ≡ reservation_distance xs lane

-- what a fresh message changes: a Confirm takes its lane's distance out, a refusal for a cell brings it down
abbrev pub distances_with : List (Option ℕ) → ℕ → Reply → Option Params → List (Option ℕ)
distances_with ds now reply None = ds
distances_with ds now reply (Some p) =
    if is_confirm reply then slice_set ds p.lane None
    else if is_blocked_reply reply then slice_set ds p.lane (Some (min_with (asked_from now p) (slice_index_or ds p.lane None)))
    else ds

abbrev pub distances_next : List (Option ℕ) → Fresh → List (Option ℕ)
distances_next ds x = distances_with ds x.now x.entry.reply (params_at x)
