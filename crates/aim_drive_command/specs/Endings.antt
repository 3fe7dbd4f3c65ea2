-- What is written of a drive script that isn't whole, and the status, by how the reading ended. No public clause cites this file.
use Rattle.std.specs.Prelude.{◌≡◌, ℕ, List, Option}
use Rattle.aim_script.specs.declared.decisions.Decision.TheVariants as decision
use Rattle.aim_script.specs.Refusals.{Refuses}
use Rattle.aim_drive_script.specs.declared.scripts.Ending.{Ending}
use Rattle.aim_drive_script.specs.declared.scripts.Ending.TheVariants as ending

-- the line that says why, for a line at fault or a limit; and nothing where the source failed, or memory ran out
abbrev pub EndsWith : Ending → Option (List ℕ) → Option (List ℕ) → ℕ → ℕ → ℕ → Type 0
EndsWith (ending.Bad number why) held held' sink sink' result = Refuses (decision.Bad number why) held held' sink sink' result
EndsWith (ending.Limit which) held held' sink sink' result = Refuses (decision.Limit which) held held' sink sink' result
EndsWith ending.Read held held' sink sink' result = (result ≡ 4) × (held' ≡ held)
EndsWith ending.NoMemory held held' sink sink' result = (result ≡ 7) × (held' ≡ held)
