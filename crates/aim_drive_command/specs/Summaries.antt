-- The counts of a drive, and how they are printed.
use Rattle.std.specs.Prelude.{ℕ, Bool, true, false, List, [], ◌∷◌, ◌++◌, length, filter, codes, decimal}
use Rattle.std.specs.List.{list_any}
use Rattle.aim_messages.specs.declared.entries.Entry.{Entry}
use Rattle.aim_messages.specs.declared.replies.Reply.{Reply}
use Rattle.aim_messages.specs.declared.replies.Reply.TheVariants as reply
use Rattle.aim_messages.specs.Texts.{spaced}
use Rattle.aim_driver.specs.declared.logs.LogItem.{LogItem}
use Rattle.aim_driver.specs.declared.logs.LogItem.TheVariants as item
use Rattle.aim_script.specs.Decided.{printed}
use Rattle.aim_drive.specs.Headline.{VehicleLog}

abbrev pub confirms_in : Reply → Bool
confirms_in (reply.Confirm id start early late accelerate last) = true
confirms_in _ = false

abbrev pub rejects_in : Reply → Bool
rejects_in (reply.Reject reason next held) = true
rejects_in _ = false

abbrev pub is_confirm : Entry → Bool
is_confirm e = confirms_in e.reply

abbrev pub is_reject : Entry → Bool
is_reject e = rejects_in e.reply

abbrev pub is_entered : LogItem → Bool
is_entered (item.Entered step id) = true
is_entered _ = false

-- whether the vehicle of the log has entered
abbrev pub has_entered : VehicleLog → Bool
has_entered x = list_any is_entered x.1

-- a word and a number
abbrev pub counted : List ℕ → ℕ → List ℕ
counted word n = printed (spaced (word ∷ decimal n ∷ []))

-- the six lines of these counts
abbrev pub summary_lines : ℕ → ℕ → ℕ → ℕ → ℕ → List ℕ
summary_lines steps entries confirms rejects entered =
    counted (codes "steps") steps ++
    counted (codes "entries") entries ++
    counted (codes "confirms") confirms ++
    counted (codes "rejects") rejects ++
    counted (codes "entered") entered ++
    counted (codes "end") entries

-- the steps, the entries, those that confirm and those that reject, and the vehicles that entered
abbrev pub summary : ℕ → List Entry → List VehicleLog → List ℕ
summary steps h logs =
    summary_lines steps (length h) (length (filter is_confirm h)) (length (filter is_reject h)) (length (filter has_entered logs))
