-- What holds of each whole script of events.
use Rattle.std.specs.Prelude.{◌≡◌, ℕ, ◌*◌, ◌<◌, ◌≤◌, length, Some, slice_get}
use Rattle.aim_messages.specs.declared.entries.TheConstants.{LATEST_MOMENT, MOST_ENTRIES}
use Rattle.aim_mail_script.specs.declared.scripts.Event.{Event}
use Rattle.aim_mail_script.specs.declared.scripts.EventScript.{EventScript}

-- the event is of one of so many vehicles, at a moment at which messages may come
pub record FitsEvent (vehicles : ℕ) (e : Event) : Type 0 where
  pub vehicle : e.vehicle < vehicles
  pub moment : e.moment ≤ LATEST_MOMENT

pub record IsFit (s : EventScript) : Type 0 where
  pub some_vehicles : 0 < s.vehicles
  pub few_vehicles : s.vehicles ≤ 256
  pub few_spans : s.vehicles * s.layout.grid.spans ≤ 16777216
  pub few_events : length s.events.items ≤ MOST_ENTRIES
  pub events : (k : ℕ) (e : Event) → slice_get s.events.items k ≡ Some e → FitsEvent s.vehicles e
