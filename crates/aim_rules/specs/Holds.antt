-- What the vehicles hold.
use Rattle.std.specs.Prelude.{ℕ, Bool, false, ◌&&◌, ◌==◌, not, nat_le, List, [], filter, find, Option, Some, None, option_map, option_and_then, if◌then◌else◌}
use Rattle.std.specs.List.{list_any}
use Rattle.aim_messages.specs.declared.messages.Params.{Params}
use Rattle.aim_messages.specs.declared.replies.Reply.{Reply}
use Rattle.aim_messages.specs.declared.replies.Reply.TheVariants as reply
use Rattle.aim_geometry.specs.Bounded.{last, since_last}
use Rattle.aim_layout.specs.Intersection.{Intersection}
use Rattle.aim_geometry.specs.Cells.{Cell}
use Rattle.aim_rules.specs.Trials.{Trial, in_trial, trial_cells, granted_trial}
use Rattle.aim_rules.specs.History.{Fresh, of_vehicle, params_at, given_up_at, is_confirm}

-- whether the option is that number
abbrev pub is_number : Option ℕ → ℕ → Bool
is_number None n = false
is_number (Some m) n = m == n

-- whether the fast trial was granted
abbrev pub is_fast : Reply → Bool
is_fast (reply.Confirm id start before after accelerate end) = accelerate
is_fast _ = false

abbrev pub granted_with : Intersection → Option Trial → Option Params → List Cell
granted_with i t None = []
granted_with i None (Some p) = []
granted_with i (Some t) (Some p) = trial_cells i p t

-- the cells of the granted trial
abbrev pub granted : Intersection → Fresh → List Cell
granted i x = granted_with i (granted_trial x.entry.reply) (params_at x)

abbrev pub is_granted_with : Intersection → Option Trial → Cell → Option Params → Bool
is_granted_with i t c None = false
is_granted_with i None c (Some p) = false
is_granted_with i (Some t) c (Some p) = in_trial i p t c

-- whether the cell is one of the granted trial's
abbrev pub is_granted : Intersection → Fresh → Cell → Bool
is_granted i x c = is_granted_with i (granted_trial x.entry.reply) c (params_at x)

-- the vehicle's last fresh message whose answer is Confirm
abbrev pub last_confirm : List Fresh → ℕ → Option Fresh
last_confirm xs v = last (λ x. is_confirm x.entry.reply) (of_vehicle v xs)

-- whether a CANCEL or a DONE of the vehicle, after its last Confirm, names the id
abbrev pub is_given_up : List Fresh → ℕ → ℕ → Bool
is_given_up xs v id =
    list_any (λ x. is_number (given_up_at x) id) (since_last (λ x. is_confirm x.entry.reply) (of_vehicle v xs))

-- whether the vehicle's last Confirm stands: it was not given up, and some cell of it is not past
abbrev pub stands : Intersection → List Fresh → ℕ → ℕ → Fresh → Bool
stands i xs v now x = not (is_given_up xs v x.place) && list_any (λ c. nat_le now c.step) (granted i x)

-- the reservation that the vehicle holds
abbrev pub holding : Intersection → List Fresh → ℕ → ℕ → Option Fresh
holding i xs v now = option_and_then (λ x. if stands i xs v now x then Some x else None) (last_confirm xs v)

-- the place of the reservation that the vehicle holds, which is its id
abbrev pub holds : Intersection → List Fresh → ℕ → ℕ → Option ℕ
holds i xs v now = option_map (λ x. x.place) (holding i xs v now)

-- all reservations that are held
abbrev pub reservations : Intersection → List Fresh → ℕ → List Fresh
reservations i xs now = filter (λ x. is_number (holds i xs x.entry.caller now) x.place) xs

-- the vehicle other than v that holds the cell, of those with these reservations
abbrev pub taken_by : List Fresh → Intersection → ℕ → Cell → Option ℕ
taken_by rs i v c = option_map (λ x. x.entry.caller) (find (λ x. not (x.entry.caller == v) && is_granted i x c) rs)
