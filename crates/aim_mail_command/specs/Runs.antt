-- What a run of a script of events gives.
use Rattle.std.specs.Prelude.{◌≡◌, ℕ, ◌<◌, ◌==◌, List, [], map, filter, length}
use Rattle.aim_messages.specs.declared.entries.Act.TheVariants as act
use Rattle.aim_messages.specs.declared.entries.Entry.{Entry}
use Rattle.aim_messages.specs.declared.entries.TheConstants.{OPERATOR}
use Rattle.aim_layout.specs.Intersection.{Intersection}
use Rattle.aim_rules.specs.Journals.{Call, call_of}
use Rattle.aim_rules.specs.Legal.{IsLegal}
use Rattle.aim_book.specs.Sheets.{own}
use Rattle.aim_mail_script.specs.declared.scripts.Event.{Event}

-- the call that an event asks for
abbrev pub event_call : Event → Call
event_call e = record { caller = e.vehicle; moment = e.moment; act = act.Message e.message }

-- the vehicle's events, in their order
abbrev pub events_by : ℕ → List Event → List Event
events_by v events = filter (λ e. e.vehicle == v) events

-- the calls of the vehicle's events
abbrev pub calls_by : ℕ → List Event → List Call
calls_by v events = map event_call (events_by v events)

-- One legal history, without an entry of the operator, in which each vehicle's entries are the calls of its events, in
-- their order and each once. There are no others.
pub record IsRun (i : Intersection) (vehicles : ℕ) (events : List Event) (h : List Entry) : Type 0 where
  pub legal : IsLegal i vehicles h
  pub operator : own OPERATOR h ≡ []
  pub each : (v : ℕ) → v < vehicles → map call_of (own v h) ≡ calls_by v events
  pub count : length h ≡ length events
