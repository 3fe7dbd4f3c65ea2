-- What holds between two calls of a caller, and what its calls are. No public clause cites this file.
use Rattle.std.specs.Prelude.{◌≡◌, ℕ, ◌+◌, ◌<◌, ◌≤◌, Bool, false, List, [], ◌∷◌, ◌++◌, length, map, max, take, IfSome, slice_index_or}
use Rattle.aim_messages.specs.declared.entries.Act.TheVariants as act
use Rattle.aim_layout.specs.Intersection.{Intersection}
use Rattle.aim_sheets.specs.Pools.{Stock}
use Rattle.aim_rules.specs.Journals.{Call}
use Rattle.aim_mail_script.specs.declared.scripts.Event.{Event}
use Rattle.aim_mail_script.specs.declared.scripts.EventScript.{EventScript}
use Rattle.aim_mail.specs.Calls.{Call as ClientCall, ClientModel, ServerModel, IsNewClient, IsSameClient}
use Rattle.aim_mail_command.specs.declared.callers.Caller.{Caller}
use Rattle.aim_mail_command.specs.Runs.{calls_by}

-- what a vehicle's client has called with
abbrev pub call_by : ℕ → ClientCall → Call
call_by v c = record { caller = v; moment = c.moment; act = act.Message c.message }

-- the calls of a vehicle's client are those of its events
abbrev pub HasCalled : ℕ → List Event → List ClientCall → Type 0
HasCalled v events calls = map (call_by v) calls ≡ calls_by v events

-- the client has sheets of the layout of its mailbox, two of them for a call
pub record HasSheets (i : Intersection) (client : ClientModel) (sheets : Stock) : Type 0 where
  pub setting : IfSome client.setting (λ s. s.layout ≡ i)
  pub room : sheets.room ≡ i.grid.spans
  pub three : sheets.count + client.kept ≡ 3
  pub kept : client.kept ≤ 1

-- the client made the call of the event
pub record Called (e : Event) (old new : ClientModel) : Type 0 where
  pub same : IsSameClient old new
  pub call : ClientCall
  pub moment : call.moment ≡ e.moment
  pub message : call.message ≡ e.message
  pub calls : new.calls ≡ old.calls ++ call ∷ []

-- the caller has made the calls of its vehicle's events before its place
pub record Works (i : Intersection) (events : List Event) (c : Caller) : Type 0 where
  pub vehicle : c.client.vehicle ≡ c.vehicle
  pub sheets : HasSheets i c.client c.sheets
  pub within : c.place ≤ length events
  pub called : HasCalled c.vehicle (take c.place events) c.client.calls

-- the caller has the same client and vehicle as before
pub record IsSameCaller (a b : Caller) : Type 0 where
  pub vehicle_is : b.vehicle ≡ a.vehicle
  pub client_is : IsSameClient a.client b.client

-- the caller went on by one event, if it was not through
pub record Stepped (i : Intersection) (events : List Event) (a b : Caller) : Type 0 where
  pub works : Works i events b
  pub same : IsSameCaller a b
  pub further : (n : ℕ) → n < length events → n ≤ a.place → n < b.place

-- the caller went on by one event, if it was not through, and where none is left, it is through
pub record Went (i : Intersection) (events : List Event) (left : Bool) (a b : Caller) : Type 0 where
  pub stepped : Stepped i events a b
  pub through : left ≡ false → length events ≤ b.place

-- the caller went on until it had come to that place at least
pub record Reached (i : Intersection) (events : List Event) (n : ℕ) (a b : Caller) : Type 0 where
  pub works : Works i events b
  pub same : IsSameCaller a b
  pub far : n ≤ b.place

-- the caller went on until it was through
abbrev pub Finished : Intersection → List Event → Caller → Caller → Type 0
Finished i events a b = Reached i events (length events) a b

-- R holds of the elements of the two lists, place by place
pub record AllByPlace {A B : Type 0} (R : A → B → Type 0) (xs : List A) (ys : List B) : Type 0 where
  pub len : length ys ≡ length xs
  pub each : (k : ℕ) (d : A) (e : B) → k < length xs → R (slice_index_or xs k d) (slice_index_or ys k e)

-- the client of the caller has made the calls of all of its vehicle's events
pub record HasMade (events : List Event) (a : Caller) (c : ClientModel) : Type 0 where
  pub same : IsSameClient a.client c
  pub called : HasCalled a.vehicle events c.calls

-- the caller of the vehicle at a place, which has made no call
pub record IsNewCaller (vehicle spans : ℕ) (c : Caller) : Type 0 where
  pub vehicle_is : c.vehicle ≡ vehicle
  pub room : c.sheets.room ≡ spans
  pub three : c.sheets.count ≡ 3
  pub first : c.place ≡ 0

-- the callers of the new mailbox of a script: one for the client of each vehicle, in their order, which has made no call
pub record AreStaff (s : EventScript) (m : ServerModel) (callers : List Caller) : Type 0 where
  pub setting : m.setting ≡ record { layout = s.layout; vehicles = s.vehicles; room = max 1 (length s.events.items) }
  pub count : length callers ≡ s.vehicles
  pub clients : (k : ℕ) (d : ClientModel) → k < s.vehicles → IsNewClient m k (slice_index_or (map (λ c. c.client) callers) k d)
  pub seats : (k : ℕ) (d : Caller) → k < length callers → IsNewCaller k s.layout.grid.spans (slice_index_or callers k d)
