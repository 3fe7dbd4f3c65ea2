-- What is written of a script of events that isn't whole, and the status, by how the reading ended. No public clause cites this file.
use Rattle.std.specs.Prelude.{◌≡◌, ℕ, List, Option}
use Rattle.aim_script.specs.declared.decisions.Decision.TheVariants as decision
use Rattle.aim_script.specs.Refusals.{Refuses}
use Rattle.aim_mail_script.specs.declared.scripts.EventEnding.{EventEnding}
use Rattle.aim_mail_script.specs.declared.scripts.EventEnding.TheVariants as ending

-- the line that says why, for a line at fault or a limit; and nothing where the source failed, or memory ran out
abbrev pub EndsWith : EventEnding → Option (List ℕ) → Option (List ℕ) → ℕ → ℕ → ℕ → Type 0
EndsWith (ending.Bad number why) held held' sink sink' result = Refuses (decision.Bad number why) held held' sink sink' result
EndsWith (ending.Limit which) held held' sink sink' result = Refuses (decision.Limit which) held held' sink sink' result
EndsWith ending.Read held held' sink sink' result = (result ≡ 4) × (held' ≡ held)
EndsWith ending.NoMemory held held' sink sink' result = (result ≡ 7) × (held' ≡ held)
