-- What is written where reading comes to no routes. No public clause cites this file.
use Rattle.std.specs.Prelude.{◌≡◌, ℕ, List, Option}
use Rattle.aim_script_reading.specs.Commands.{Puts}
use Rattle.aim_grid_script.specs.declared.decisions.GridDecision.{GridDecision}
use Rattle.aim_grid_script.specs.declared.decisions.GridDecision.TheVariants as decision
use Rattle.aim_grid_script.specs.declared.endings.GridEnding.{GridEnding}
use Rattle.aim_grid_script.specs.declared.endings.GridEnding.TheVariants as ending
use Rattle.aim_grid_command.specs.Refusals.{refusal_text, status_of}

-- the one line of the decision was put, with its status
abbrev pub Refuses : GridDecision → Option (List ℕ) → Option (List ℕ) → ℕ → ℕ → ℕ → Type 0
Refuses d held held' sink sink' result = Puts (refusal_text d) (status_of d) held held' sink sink' result

-- the line that says why, for a line at fault or a limit; and nothing where the source failed, or memory ran out
abbrev pub EndsWith : GridEnding → Option (List ℕ) → Option (List ℕ) → ℕ → ℕ → ℕ → Type 0
EndsWith (ending.Bad number why) held held' sink sink' result = Refuses (decision.Bad number why) held held' sink sink' result
EndsWith (ending.Limit which) held held' sink sink' result = Refuses (decision.Limit which) held held' sink sink' result
EndsWith ending.Read held held' sink sink' result = (result ≡ 4) × (held' ≡ held)
EndsWith ending.NoMemory held held' sink sink' result = (result ≡ 7) × (held' ≡ held)
