-- When a vehicle may ask again.
use Rattle.std.specs.Prelude.{ℕ, ◌+◌, ◌-◌, ◌/◌, Bool, true, false, List, Option, Some, None, option_and_then, min, max, unwrap_or}
use Rattle.aim_messages.specs.declared.replies.Reply.{Reply}
use Rattle.aim_messages.specs.declared.replies.Reply.TheVariants as reply
use Rattle.aim_geometry.specs.Bounded.{last}
use Rattle.aim_rules.specs.History.{Fresh, of_vehicle}

-- after half of the way to the arrival, but a step at least and the longest wait at most
abbrev pub next_allowed : ℕ → ℕ → ℕ → ℕ
next_allowed now arrive longest = now + max 1 (min longest ((arrive - now) / 2))

abbrev pub next_with : Reply → Option ℕ
next_with (reply.Reject why next held) = Some next
next_with _ = None

abbrev pub is_reject : Reply → Bool
is_reject (reply.Reject why next held) = true
is_reject _ = false

-- the standing next: the `next` of the vehicle's last fresh Reject, or 0; a Confirm leaves it
abbrev pub standing_next : List Fresh → ℕ → ℕ
standing_next xs v =
    unwrap_or (option_and_then (λ x. next_with x.entry.reply) (last (λ x. is_reject x.entry.reply) (of_vehicle v xs))) 0
