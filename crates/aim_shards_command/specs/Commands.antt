-- The texts of a script of claims, and its status.
use Rattle.std.specs.Prelude.{◌≡◌, ℕ, List, Option, None, Some}
use Rattle.aim_messages.specs.Texts.{spaced}
use Rattle.aim_shards.specs.declared.claims.ClaimEntry.{ClaimEntry}
use Rattle.aim_shards_command.specs.declared.lines.ShardLine.{ShardLine}
use Rattle.aim_shards_command.specs.ClaimTexts.{ClaimRefused, printed, refused_words, status_of}
use Rattle.aim_shards_command.specs.Verdicts.{verdict}
use Rattle.aim_shards_command.specs.Running.{IsRun}
use Rattle.aim_shards_command.specs.Texts.{history_text}
use Rattle.aim_shards_command.specs.Told.{AreTold}

-- The text reports the history of a run of these lines, and tells it.
pub record IsReport (lines : List ShardLine) (text : List ℕ) : Type 0 where
  pub log : List ClaimEntry
  pub run : IsRun lines log
  pub is : text ≡ history_text log
  pub told : AreTold log

-- The text of a script: of a whole one the report of a run of it, and of another one the line that says why it isn't whole.
abbrev pub IsTextOf : List ShardLine → Option ClaimRefused → List ℕ → Type 0
IsTextOf before None text = IsReport before text
IsTextOf before (Some why) text = text ≡ printed (spaced (refused_words why))

-- a text that the script of these bytes may have
abbrev pub IsText : List ℕ → List ℕ → Type 0
IsText bytes text = let v = verdict bytes in IsTextOf v.before v.refused text

abbrev pub status_after : Option ClaimRefused → ℕ
status_after None = 0
status_after (Some why) = status_of why

-- its status
abbrev pub status_for : List ℕ → ℕ
status_for bytes = let v = verdict bytes in status_after v.refused
