-- What is left of the legs of a run, and of its crossings.
use Rattle.std.specs.Prelude.{◌≡◌, ◌≢◌, ℕ, ◌<◌, ◌≤◌, ◌==◌, ◌&&◌, List, [], ◌∷◌, ◌++◌, length, map, Option, Some, if◌then◌else◌, slice_get, All, Contains, IsSomeAnd, sum_by}
use Rattle.std.specs.List.{filter}
use Rattle.aim_rules.specs.Legal.{IsLegal}
use Rattle.aim_driver.specs.declared.logs.LogItem.{LogItem}
use Rattle.aim_turnstile.specs.History.{entries_of}
use Rattle.aim_turnstile.specs.Models.{TurnstileModel, HasPass}
use Rattle.aim_grid.specs.BookSetting.{BookSetting}
use Rattle.aim_grid.specs.Seen.{caller_of, callers}
use Rattle.aim_grid.specs.Trouble.TheVariants as trouble
use Rattle.aim_grid.specs.Agents.{AgentPass, IsFull}
use Rattle.aim_grid.specs.Legs.{LegTold, legs_told}
use Rattle.aim_grid.specs.Models.{TravellerModel}
use Rattle.aim_grid.specs.Rode.{Managers}
use Rattle.aim_drive.specs.Headline.{VehicleLog}
use Rattle.aim_drive.specs.Making.{log_of}
use Rattle.aim_drive.specs.declared.running.Drove.{Drove}
use Rattle.aim_grid.specs.declared.seats.Seats.{Seats}
use Rattle.aim_grid.specs.Making.{Seat, held}

-- what is left of a leg: its vehicle, its crossing, its driver's log and its pass
pub record Gone : Type 0 where
  pub vehicle : ℕ
  pub crossing : ℕ
  pub log : List LogItem
  pub pass : AgentPass

abbrev pub gone : ℕ → LegTold → Gone
gone v x = record { vehicle = v; crossing = x.0; log = x.1; pass = x.2 }

abbrev pub gone_of : TravellerModel → List Gone
gone_of t = map (gone t.vehicle) (legs_told t)

-- of all travellers, one after another
abbrev pub all_gone : List TravellerModel → List Gone
all_gone [] = []
all_gone (t ∷ ts) = gone_of t ++ all_gone ts

abbrev pub seat_gone : Gone → Seat
seat_gone g = (g.vehicle, g.crossing)

-- a vehicle's pass and the log of its driver came back, and all else stayed
pub record IsBackAt (vehicle : ℕ) (log : List LogItem) (pass : AgentPass) (old new : Seats) : Type 0 where
  pub many : length new.passes.items ≡ length old.passes.items
  pub operator : new.operator ≡ old.operator
  pub logs : map log_of new.logs.items ≡ map log_of old.logs.items ++ (vehicle, log) ∷ []
  pub own : held new vehicle ≡ Some pass
  pub others : (v : ℕ) → v ≢ vehicle → held new v ≡ held old v

-- what is held for a vehicle at a crossing after these legs gave their passes back
abbrev pub held_after : ℕ → ℕ → List Gone → Option AgentPass → Option AgentPass
held_after v c [] o = o
held_after v c (g ∷ gs) o = held_after v c gs (if g.vehicle == v && g.crossing == c then Some g.pass else o)

-- the logs of those at a crossing
abbrev pub logs_gone : ℕ → List Gone → List VehicleLog
logs_gone c gs = map (λ (g : Gone). (g.vehicle, g.log)) (filter (λ (g : Gone). g.crossing == c) gs)

-- the seats of a crossing after these legs came back
pub record Gives (c : ℕ) (gs : List Gone) (old new : Seats) : Type 0 where
  pub many : length new.passes.items ≡ length old.passes.items
  pub operator : new.operator ≡ old.operator
  pub logs : map log_of new.logs.items ≡ map log_of old.logs.items ++ logs_gone c gs
  pub after : (v : ℕ) → v < length old.passes.items → held new v ≡ held_after v c gs (held old v)

pub record AllGive (gs : List Gone) (old new : List Seats) : Type 0 where
  pub count : length new ≡ length old
  pub each : (c : ℕ) (s t : Seats) → slice_get old c ≡ Some s → slice_get new c ≡ Some t → Gives c gs s t

-- the leg's vehicle has a seat at its crossing
pub record IsSeated (seats : List Seats) (g : Gone) : Type 0 where
  pub there : Seats
  pub at : slice_get seats g.crossing ≡ Some there
  pub seat : g.vehicle < length there.passes.items

-- a traveller found memory, and where it is in trouble the journal was full
abbrev pub HasMemory : TravellerModel → Type 0
HasMemory t = (t.agent.trouble ≢ Some trouble.NoMemory) × (t.agent.trouble ≡ Some trouble.Full → IsFull t.agent.pass)

-- all passes of a manager are back
pub record AreBack (m : TurnstileModel BookSetting) (s : Seats) : Type 0 where
  pub many : length s.passes.items ≡ m.setting.vehicles
  pub back : All (λ o. IsSomeAnd o (λ p. p.table ≡ m.table)) s.passes.items
  pub operator : s.operator.table ≡ m.table

-- what is left of a crossing with these seats
pub record IsLeft (m : TurnstileModel BookSetting) (s : Seats) (d : Drove) : Type 0 where
  pub passes : List AgentPass
  pub seats : s.passes.items ≡ map (λ p. Some p) passes
  pub legal : IsLegal m.setting.layout m.setting.vehicles d.journal.items
  pub fits : length d.journal.items ≤ m.setting.room
  pub has : All (HasPass caller_of d.journal.items) (passes ++ s.operator ∷ [])
  pub others : (n : ℕ) → (Contains (callers m.setting.vehicles) n → ⊥) → entries_of caller_of n d.journal.items ≡ []
  pub count : length d.journal.items ≡ sum_by (λ (p : AgentPass). length p.mine) (passes ++ s.operator ∷ [])
  pub logs : d.logs.items ≡ s.logs.items

-- the same of all crossings
pub record AreLeft (ms : Managers) (seats : List Seats) (ds : List Drove) : Type 0 where
  pub count : length ds ≡ length ms
  pub each : (c : ℕ) (m : TurnstileModel BookSetting) (s : Seats) (d : Drove) → slice_get ms c ≡ Some m → slice_get seats c ≡ Some s → slice_get ds c ≡ Some d → IsLeft m s d
