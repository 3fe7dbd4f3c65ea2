-- The texts of a script of events, and its status.
use Rattle.std.specs.Prelude.{◌≡◌, ◌++◌, ℕ, List, [], length}
use Rattle.aim_messages.specs.declared.entries.Entry.{Entry}
use Rattle.aim_messages.specs.declared.script.Line.{Line}
use Rattle.aim_messages.specs.Texts.{spaced}
use Rattle.aim_script.specs.declared.decisions.Decision.{Decision}
use Rattle.aim_script.specs.declared.decisions.Decision.TheVariants as decision
use Rattle.aim_script.specs.Decided.{decision_words, printed, status_of}
use Rattle.aim_script.specs.Said.{layout_of, vehicles_of}
use Rattle.aim_mail_script.specs.Said.{events_of}
use Rattle.aim_mail_script.specs.Verdicts.{event_verdict}
use Rattle.aim_report.specs.Reports.{end_words, journal_lines}
use Rattle.aim_report.specs.Told.{AreTold}
use Rattle.aim_mail_command.specs.Runs.{IsRun}

-- the lines of a journal, and how many they are
abbrev pub report : List Entry → List ℕ
report h = journal_lines 0 h ++ printed (spaced (end_words (length h)))

-- The text reports the journal of a run of these lines, and tells it.
pub record IsReport (lines : List Line) (text : List ℕ) : Type 0 where
  pub journal : List Entry
  pub run : IsRun (layout_of lines) (vehicles_of lines) (events_of lines) journal
  pub is : text ≡ report journal
  pub told : AreTold journal []

-- The text of a script: of a whole one the report of a run of it, and of another one the line that says why it isn't whole.
abbrev pub IsTextOf : List Line → Decision → List ℕ → Type 0
IsTextOf lines (decision.Whole count) text = IsReport lines text
IsTextOf lines (decision.Bad number why) text = text ≡ printed (spaced (decision_words (decision.Bad number why)))
IsTextOf lines (decision.Limit which) text = text ≡ printed (spaced (decision_words (decision.Limit which)))

-- a text that the script of these bytes may have
abbrev pub IsText : List ℕ → List ℕ → Type 0
IsText bytes text = let v = event_verdict bytes in IsTextOf v.before v.decision text

-- its status
abbrev pub status_for : List ℕ → ℕ
status_for bytes = let v = event_verdict bytes in status_of v.decision
