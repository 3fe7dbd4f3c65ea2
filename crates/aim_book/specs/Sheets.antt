-- How many sheets a book keeps for a vehicle.
use Rattle.std.specs.Prelude.{ℕ, ◌==◌, List, filter, Option, Some, None, option_and_then, if◌then◌else◌}
use Rattle.aim_messages.specs.declared.entries.Entry.{Entry}
use Rattle.aim_messages.specs.declared.replies.Reply.{Reply}
use Rattle.aim_messages.specs.declared.replies.Reply.TheVariants as reply
use Rattle.aim_rules.specs.History.{Fresh, fresh}
use Rattle.aim_rules.specs.Holds.{is_given_up, last_confirm}

-- the id that a Confirm gives
abbrev pub id_in : Reply → Option ℕ
id_in (reply.Confirm id start before after accelerate end) = Some id
id_in _ = None

-- 1 where there is an id that no later CANCEL or DONE of the vehicle names
abbrev pub sheets_with : List Fresh → ℕ → Option ℕ → ℕ
sheets_with xs v None = 0
sheets_with xs v (Some id) = if is_given_up xs v id then 0 else 1

-- 1 where the vehicle has a fresh Confirm, and no later fresh CANCEL or DONE of it names the last one, else 0
abbrev pub sheets_kept : ℕ → List Entry → ℕ
sheets_kept v h = sheets_with (fresh h) v (option_and_then (λ x. id_in x.entry.reply) (last_confirm (fresh h) v))

-- the vehicle's own entries
abbrev pub own : ℕ → List Entry → List Entry
own v h = filter (λ e. e.caller == v) h
