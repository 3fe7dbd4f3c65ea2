-- The texts of a drive script, and its status.
use Rattle.std.specs.Prelude.{◌≡◌, ◌≢◌, ℕ, ◌≤◌, List, length}
use Rattle.aim_messages.specs.declared.entries.Entry.{Entry}
use Rattle.aim_messages.specs.declared.entries.TheConstants.{OPERATOR}
use Rattle.aim_messages.specs.declared.script.Line.{Line}
use Rattle.aim_messages.specs.Texts.{spaced}
use Rattle.aim_script.specs.declared.decisions.Decision.{Decision}
use Rattle.aim_script.specs.declared.decisions.Decision.TheVariants as decision
use Rattle.aim_script.specs.Decided.{decision_words, printed, status_of}
use Rattle.aim_script.specs.Said.{layout_of, vehicles_of}
use Rattle.aim_driver.specs.Fits.{entries_of}
use Rattle.aim_drive_script.specs.Said.{orders_of}
use Rattle.aim_drive_script.specs.Verdicts.{drive_verdict}
use Rattle.aim_report.specs.Apart.{TilesAreApart, TilesAreOwn}
use Rattle.aim_report.specs.Reports.{report}
use Rattle.aim_report.specs.Told.{AreTold}
use Rattle.aim_drive.specs.Headline.{VehicleLog}
use Rattle.aim_drive_command.specs.Ordered.{in_order}
use Rattle.aim_drive_command.specs.Runs.{IsRunOf}

-- The text reports a run of these lines: its journal, and of each vehicle, in rising order, the log and the tiles. The text tells the journal and the
-- logs, and of no tile do its lines say that two drivers are on it in one step, or one where the green of another lane claims it.
pub record IsReport (workers : ℕ) (lines : List Line) (text : List ℕ) : Type 0 where
  pub journal : List Entry
  pub logs : List VehicleLog
  pub run : IsRunOf workers lines journal logs
  pub is : text ≡ report (layout_of lines) journal (in_order (vehicles_of lines) logs)
  pub told : AreTold journal (in_order (vehicles_of lines) logs)
  pub apart : TilesAreApart text
  pub own : TilesAreOwn (layout_of lines) journal text
  -- the journal is short: at most 128 entries of a vehicle, and one of each order
  pub short : (v : ℕ) → v ≢ OPERATOR → length (entries_of journal v) ≤ 128
  pub orders : length (entries_of journal OPERATOR) ≡ length (orders_of lines)

-- The text of a script: of a whole one the report of a run of it, and of another one the line that says why it isn't whole.
abbrev pub IsTextOf : ℕ → List Line → Decision → List ℕ → Type 0
IsTextOf workers lines (decision.Whole count) text = IsReport workers lines text
IsTextOf workers lines (decision.Bad number why) text = text ≡ printed (spaced (decision_words (decision.Bad number why)))
IsTextOf workers lines (decision.Limit which) text = text ≡ printed (spaced (decision_words (decision.Limit which)))

-- a text that the script of these bytes may have
abbrev pub IsText : ℕ → List ℕ → List ℕ → Type 0
IsText workers bytes text = let v = drive_verdict bytes in IsTextOf workers v.before v.decision text

-- its status
abbrev pub status_for : List ℕ → ℕ
status_for bytes = let v = drive_verdict bytes in status_of v.decision
