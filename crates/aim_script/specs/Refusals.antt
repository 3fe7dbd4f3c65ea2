-- What is written of a script that isn't whole, and the status.
use Rattle.std.specs.Prelude.{ℕ, List, Option}
use Rattle.aim_script_reading.specs.Commands.{Puts}
use Rattle.aim_messages.specs.Texts.{spaced}
use Rattle.aim_script.specs.declared.decisions.Decision.{Decision}
use Rattle.aim_script.specs.Decided.{decision_words, printed, status_of}

-- The line that says why was put, with the status of the reason.
abbrev pub Refuses : Decision → Option (List ℕ) → Option (List ℕ) → ℕ → ℕ → ℕ → Type 0
Refuses d held held' sink sink' result = Puts (printed (spaced (decision_words d))) (status_of d) held held' sink sink' result
