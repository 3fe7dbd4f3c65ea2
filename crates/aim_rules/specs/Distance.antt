-- The reservation distance of a lane.
use Rattle.std.specs.Prelude.{ℕ, ◌-◌, ◌*◌, Bool, true, false, ◌==◌, List, filter, filter_map, Option, Some, None, option_map}
use Rattle.aim_messages.specs.declared.messages.Params.{Params}
use Rattle.aim_messages.specs.declared.replies.Reason.TheVariants as reason
use Rattle.aim_messages.specs.declared.replies.Reply.{Reply}
use Rattle.aim_messages.specs.declared.replies.Reply.TheVariants as reply
use Rattle.aim_geometry.specs.Bounded.{least, since_last}
use Rattle.aim_rules.specs.History.{Fresh, params_at, is_confirm}

abbrev pub is_lane : Option Params → ℕ → Bool
is_lane None lane = false
is_lane (Some p) lane = p.lane == lane

-- the fresh messages that ask for the lane
abbrev pub in_lane : ℕ → List Fresh → List Fresh
in_lane lane xs = filter (λ x. is_lane (params_at x) lane) xs

-- whether the reply is a refusal for a cell
abbrev pub is_blocked_reply : Reply → Bool
is_blocked_reply (reply.Reject (reason.Green row col step lane) next held) = true
is_blocked_reply (reply.Reject (reason.Taken row col step by) next held) = true
is_blocked_reply _ = false

-- how far from the stop line a vehicle asks, at its speed
abbrev pub asked_from : ℕ → Params → ℕ
asked_from now p = (p.arrive - now) * p.speed

abbrev pub asked_at : Fresh → Option ℕ
asked_at x = option_map (asked_from x.now) (params_at x)

-- the least distance that was refused for a cell since the lane's last Confirm; none is infinite
abbrev pub reservation_distance : List Fresh → ℕ → Option ℕ
reservation_distance xs lane =
    least (filter_map asked_at (filter (λ x. is_blocked_reply x.entry.reply) (since_last (λ x. is_confirm x.entry.reply) (in_lane lane xs))))
