-- What is known of the lines of a script so far. No public clause cites this file: only contracts of private functions.
use Rattle.std.specs.Prelude.{◌≡◌, ℕ, ◌<◌, ◌≤◌, true, false, List, [], ◌∷◌, ◌++◌, length, Option, Some, None, Result, Ok, Err, nat_le, nat_lt, slice_get, if◌then◌else◌}
use Rattle.aim_io.specs.Lines.{Line as LineOf}
use Rattle.aim_messages.specs.declared.entries.TheConstants.{LATEST_MOMENT}
use Rattle.aim_messages.specs.declared.script.Line.{Line}
use Rattle.aim_script_reading.specs.declared.decisions.Bound.TheVariants as bound
use Rattle.aim_script_reading.specs.declared.decisions.Refused.{Refused}
use Rattle.aim_script_reading.specs.declared.decisions.Refused.TheVariants as refused
use Rattle.aim_script_reading.specs.declared.decisions.Why.TheVariants as reason
use Rattle.aim_script_reading.specs.declared.takers.Refusal.{Refusal}
use Rattle.aim_script_reading.specs.declared.takers.Refusal.TheVariants as refusal
use Rattle.aim_script_reading.specs.Verdicts.{decides, goes_on, judge, number_after, of_read}
use Rattle.aim_script.specs.declared.decisions.Kind.{Kind}
use Rattle.aim_script.specs.declared.decisions.Kind.TheVariants as kind
use Rattle.aim_script.specs.declared.decisions.Limit.{Limit}
use Rattle.aim_script.specs.declared.settings.Setting.{Setting}
use Rattle.aim_script.specs.Headers.{IsSet, Stands as StandsAsHeader}
use Rattle.aim_script.specs.Order.{part_after, is_end, in_body, nothing}
use Rattle.aim_script.specs.Said.{version_after, layout_of, vehicles_of, calls_of, last_of}
use Rattle.aim_script.specs.Told.{kind_told, limit_told}
use Rattle.aim_script.specs.Versions.{version_number}
use Rattle.aim_drive_script.specs.Kinds.{vehicles_limit}
use Rattle.aim_mail_script.specs.declared.scripts.Event.{Event}
use Rattle.aim_mail_script.specs.declared.scripts.EventScript.{EventScript}
use Rattle.aim_mail_script.specs.declared.scripts.EventEnding.{EventEnding}
use Rattle.aim_mail_script.specs.declared.scripts.EventEnding.TheVariants as ending
use Rattle.aim_mail_script.specs.declared.stages.Draft.{Draft}
use Rattle.aim_mail_script.specs.declared.stages.Stage.{Stage}
use Rattle.aim_mail_script.specs.declared.stages.Stage.TheVariants as stage
use Rattle.aim_mail_script.specs.Said.{events_of}
use Rattle.aim_mail_script.specs.Fits.{FitsEvent, IsFit}
use Rattle.aim_mail_script.specs.Scripts.{AreEvents, IsScriptOf}
use Rattle.aim_mail_script.specs.Verdicts.{event_rules}

-- there is a vehicle, and there are not too many
pub record IsOpen (s : Setting) : Type 0 where
  pub some : 0 < s.vehicles
  pub within : vehicles_limit s.layout.grid.spans s.vehicles ≡ None

-- from `begin` on: the script so far is what the lines say
pub record IsDraft (before : List Line) (d : Draft) : Type 0 where
  pub version : version_after before ≡ version_number d.version
  pub layout : layout_of before ≡ d.script.layout
  pub declared : vehicles_of before ≡ d.script.vehicles
  pub events : events_of before ≡ d.script.events.items
  pub calls : length (calls_of before) ≡ length d.script.events.items
  pub few : length d.script.events.items ≤ length before
  pub some : 0 < d.script.vehicles
  pub within : vehicles_limit d.script.layout.grid.spans d.script.vehicles ≡ None
  pub each : (k : ℕ) (e : Event) → slice_get d.script.events.items k ≡ Some e → FitsEvent d.script.vehicles e

-- what is kept is what the lines say
abbrev pub Says : List Line → Stage → Type 0
Says before (stage.Header h) = StandsAsHeader before h
Says before (stage.Begin s) = IsSet before s × IsOpen s
Says before (stage.Body d) = (part_after (last_of before) ≡ in_body) × (is_end (last_of before) ≡ false) × IsDraft before d
Says before (stage.Over d) = (part_after (last_of before) ≡ nothing) × (is_end (last_of before) ≡ true) × IsDraft before d

-- the stage stands for these lines
pub record Stands (before : List Line) (s : Stage) : Type 0 where
  pub whole : AreEvents before
  pub says : Says before s

-- the version in which a further line is read
abbrev pub version_at : Stage → ℕ
version_at (stage.Header h) = version_number h.version
version_at (stage.Begin s) = version_number s.version
version_at (stage.Body d) = version_number d.version
version_at (stage.Over d) = version_number d.version

-- a further line goes on, to that stage
abbrev pub GoesTo : List Line → Line → Stage → Type 0
GoesTo before l next = (of_read event_rules before (Ok l) ≡ goes_on l) × Stands (before ++ l ∷ []) next

-- what a further line comes to
abbrev pub Takes : {H : Type 0} → List Line → Line → Result Stage (Refusal Kind Limit H) → Type 0
Takes before l (Ok next) = GoesTo before l next
Takes before l (Err (refusal.Bad why)) = of_read event_rules before (Ok l) ≡ decides (refused.Bad (number_after before) (reason.Fault why))
Takes before l (Err (refusal.Limit which)) = of_read event_rules before (Ok l) ≡ decides (refused.Limit (bound.Further which))
Takes before l (Err (refusal.Halt h)) = Unit {0}

-- what further bytes come to
abbrev pub Judged : {H : Type 0} → List Line → List ℕ → Result Stage (Refusal Kind Limit H) → Type 0
Judged before bytes (Ok next) = (l : Line) × (judge event_rules before (LineOf bytes) ≡ goes_on l) × Stands (before ++ l ∷ []) next
Judged before bytes (Err (refusal.Bad why)) = judge event_rules before (LineOf bytes) ≡ decides (refused.Bad (number_after before) (reason.Fault why))
Judged before bytes (Err (refusal.Limit which)) = judge event_rules before (LineOf bytes) ≡ decides (refused.Limit (bound.Further which))
Judged before bytes (Err (refusal.Halt h)) = Unit {0}

-- the script of lines that make a whole one
pub record Ends (lines : List Line) (s : EventScript) : Type 0 where
  pub count : length (calls_of lines) ≡ length s.events.items
  pub whole : AreEvents lines
  pub is : IsScriptOf lines s
  pub fits : IsFit s

-- what is wrong with an event, where there are so many vehicles
abbrev pub event_kind : ℕ → ℕ → ℕ → Option Kind
event_kind vehicles v at = if nat_le vehicles v then Some kind.Vehicle else if nat_lt LATEST_MOMENT at then Some kind.Moment else None

-- what a line or limit comes to that decides
abbrev pub ending_of : Refused Kind Limit → EventEnding
ending_of (refused.Bad number w) = ending.Bad number (kind_told w)
ending_of (refused.Limit b) = ending.Limit (limit_told b)
