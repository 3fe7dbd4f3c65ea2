-- The texts of a script of several crossings, and its status.
use Rattle.std.specs.Prelude.{◌≡◌, ◌<◌, ◌≤◌, ℕ, List, Some, length, slice_get}
use Rattle.aim_messages.specs.declared.entries.Entry.{Entry}
use Rattle.aim_layout.specs.Intersection.{Intersection}
use Rattle.aim_driver.specs.Fits.{entries_of}
use Rattle.aim_report.specs.Told.{AreTold}
use Rattle.aim_drive_command.specs.Ordered.{in_order}
use Rattle.aim_grid.specs.Headline.{VehicleLog}
use Rattle.aim_grid_script.specs.declared.lines.GridLine.{GridLine}
use Rattle.aim_grid_script.specs.declared.decisions.GridDecision.{GridDecision}
use Rattle.aim_grid_script.specs.declared.decisions.GridDecision.TheVariants as decision
use Rattle.aim_grid_script.specs.Said.{layouts_of, legs_of, until_of, vehicles_of}
use Rattle.aim_grid_script.specs.Verdicts.{grid_verdict}
use Rattle.aim_grid.specs.Runs.{IsRunOf}
use Rattle.aim_grid_command.specs.Refusals.{refusal_text, status_of}
use Rattle.aim_grid_command.specs.Texts.{grid_report}
use Rattle.aim_grid_command.specs.Tiles.{TilesAreApartAt, TilesAreOwnAt}

-- The text reports a run of these lines: of each crossing the journal, the logs and the tiles. It tells the journals and the logs, and has at no crossing two
-- lines that say that two drivers are on one tile in one step, or one where the green of another lane claims it.
pub record IsReport (lines : List GridLine) (text : List ℕ) : Type 0 where
  pub journals : List (List Entry)
  pub logs : List (List VehicleLog)
  pub run : IsRunOf (layouts_of lines) (vehicles_of lines) (until_of lines) (legs_of lines) journals logs
  pub is : text ≡ grid_report (layouts_of lines) (vehicles_of lines) journals logs
  pub told : (c : ℕ) (h : List Entry) (xs : List VehicleLog) → slice_get journals c ≡ Some h → slice_get logs c ≡ Some xs → AreTold h (in_order (vehicles_of lines) xs)
  pub apart : (c : ℕ) → c < length (layouts_of lines) → TilesAreApartAt c text
  pub own : (c : ℕ) (i : Intersection) (h : List Entry) → slice_get (layouts_of lines) c ≡ Some i → slice_get journals c ≡ Some h → TilesAreOwnAt i h c text
  -- no journal has more than 128 entries of a vehicle
  pub short : (c : ℕ) (h : List Entry) → slice_get journals c ≡ Some h → (v : ℕ) → length (entries_of h v) ≤ 128

-- The text of a script: of a whole one the report of a run of it, and of another one the line that says why it isn't whole.
abbrev pub IsTextOf : List GridLine → GridDecision → List ℕ → Type 0
IsTextOf lines decision.Whole text = IsReport lines text
IsTextOf lines (decision.Bad number why) text = text ≡ refusal_text (decision.Bad number why)
IsTextOf lines (decision.Limit which) text = text ≡ refusal_text (decision.Limit which)

-- a text that the script of these bytes may have
abbrev pub IsText : List ℕ → List ℕ → Type 0
IsText bytes text = let v = grid_verdict bytes in IsTextOf v.before v.decision text

-- its status
abbrev pub status_for : List ℕ → ℕ
status_for bytes = let v = grid_verdict bytes in status_of v.decision
