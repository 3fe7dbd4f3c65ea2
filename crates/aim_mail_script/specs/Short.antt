-- What was read where the source fails before a line decides, and what was read at all.
use Rattle.std.specs.Prelude.{ℕ, List, Option}
use Rattle.aim_script_reading.specs.Short.{LastNeededBy, StopsShort as StopsShortBy}
use Rattle.aim_mail_script.specs.Verdicts.{event_rules}

-- the bytes that were read decide nothing
abbrev pub StopsShort : Option (List ℕ) → Option (List ℕ) → Type 0
StopsShort left_old left_new = StopsShortBy event_rules left_old left_new

-- the last read was needed: what was read before it decides nothing
abbrev pub LastNeeded : Option (List ℕ) → Option (List ℕ) → Option ℕ → Type 0
LastNeeded left_old left_new last = LastNeededBy event_rules left_old left_new last
