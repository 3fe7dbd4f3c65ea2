-- The lanes in which emergencies approach. In versions 1 to 3 an emergency counts whatever its answer was, until its
-- vehicle's next fresh message; from version 4 on only while it isn't confirmed.
use Rattle.std.specs.Prelude.{if◌then◌else◌, ℕ, ◌+◌, Bool, false, ◌&&◌, ◌==◌, not, nat_le, List, Option, Some, None, is_none}
use Rattle.std.specs.List.{list_any}
use Rattle.aim_messages.specs.declared.messages.Params.{Params}
use Rattle.aim_messages.specs.declared.replies.Reply.{Reply}
use Rattle.aim_layout.specs.Intersection.{Intersection}
use Rattle.aim_rules.specs.Bad.{bad}
use Rattle.aim_rules.specs.Trials.{has_windows}
use Rattle.aim_rules.specs.History.{Fresh, last_of_each, params_at, is_confirm}

-- whether these are the params of an emergency that comes in this lane
abbrev pub is_coming : Intersection → ℕ → ℕ → Option Params → Bool
is_coming i now lane None = false
is_coming i now lane (Some p) = p.emergency && p.lane == lane && nat_le now (p.arrive + i.times.horizon) && is_none (bad i p)

-- the params of a message that still calls, which was answered so
abbrev pub calling : Intersection → Reply → Option Params → Option Params
calling i r o = if has_windows i && is_confirm r then None else o

abbrev pub calling_at : Intersection → Fresh → Option Params
calling_at i x = calling i x.entry.reply (params_at x)

-- whether an emergency of a vehicle other than v comes in the lane
abbrev pub others_come : Intersection → List Fresh → ℕ → ℕ → ℕ → Bool
others_come i xs v now lane = list_any (λ x. not (x.entry.caller == v) && is_coming i now lane (calling_at i x)) (last_of_each xs)
