-- What holds of the journals of several crossings and of the logs of the vehicles that go over them, whatever the threads do.
use Rattle.std.specs.Prelude.{◌≡◌, ◌≢◌, ℕ, ◌≤◌, ◌==◌, true, false, List, [], ◌∷◌, length, map, Option, Some, None, slice_get, slice_index_or}
use Rattle.std.specs.List.{filter}
use Rattle.aim_messages.specs.declared.entries.Entry.{Entry}
use Rattle.aim_geometry.specs.Cells.{Cell}
use Rattle.aim_layout.specs.Intersection.{Intersection}
use Rattle.aim_rules.specs.Claims as claims
use Rattle.aim_rules.specs.Legal.{IsLegal}
use Rattle.aim_driver.specs.declared.plans.DrivePlan.{DrivePlan}
use Rattle.aim_driver.specs.declared.logs.Entrance.{Entrance}
use Rattle.aim_driver.specs.declared.logs.LogItem.{LogItem}
use Rattle.aim_driver.specs.Crossings.{first_entrance}
use Rattle.aim_driver.specs.Fits.{entries_of}
use Rattle.aim_drive_script.specs.Said.{Drive}
use Rattle.aim_safety.specs.Occupied.{Passage, passage, is_on, is_occupied}
use Rattle.aim_safety.specs.Reserved.{Crosses, IsReserved}
use Rattle.aim_drive.specs.Headline.{VehicleLog, IsFollowed}
use Rattle.aim_grid.specs.Acked.{acked, begun_at}
use Rattle.aim_grid.specs.Route.{IsRoute}

-- a leg of a vehicle's route: the crossing, what its driver is to do there, and the driver's log
pub record Ride : Type 0 where
  pub vehicle : ℕ
  pub crossing : ℕ
  pub plan : DrivePlan
  pub log : List LogItem

-- the drive of a leg, where the leg before got its Ack at the step: all is delivered in time
abbrev pub drive_behind : ℕ → Ride → Drive
drive_behind step r = record { vehicle = r.vehicle; plan = begun_at step r.plan; up = []; down = [] }

-- A leg that is begun has the log and the calls that its driver follows. One that isn't has neither.
abbrev pub IsLeg : ℕ → List Entry → Option ℕ → Ride → Type 0
IsLeg until h None r = (r.log ≡ []) × (entries_of h r.vehicle ≡ [])
IsLeg until h (Some step) r = IsFollowed until h (drive_behind step r) r.log

-- The legs of a vehicle, one behind the other: the first is begun at the step that is told, and each further one exactly where the one before got the
-- Ack that answers its DONE.
abbrev pub AreLegs : ℕ → (ℕ → List Entry) → Option ℕ → List Ride → Type 0
AreLegs until journal begun [] = Unit {0}
AreLegs until journal begun (r ∷ rs) = IsLeg until (journal r.crossing) begun r × AreLegs until journal (acked r.log) rs

-- no leg's plan begins with the very step that it is told from
abbrev pub AreLate : List Ride → Type 0
AreLate [] = Unit {0}
AreLate (r ∷ rs) = (1 ≤ r.plan.first) × AreLate rs

-- a vehicle's legs, in their order
abbrev pub rides_of : ℕ → List Ride → List Ride
rides_of v rides = filter (λ r. r.vehicle == v) rides

abbrev pub log_of : Ride → List LogItem
log_of r = r.log

abbrev pub told_by : Ride → VehicleLog
told_by r = (r.vehicle, r.log)

-- the vehicles with a leg at the crossing, and the logs of their drivers there
abbrev pub logs_at : ℕ → List Ride → List VehicleLog
logs_at c rides = map told_by (filter (λ r. r.crossing == c) rides)

-- the journal of a crossing
abbrev pub journal_in : List (List Entry) → ℕ → List Entry
journal_in hs c = slice_index_or hs c []

-- one crossing: its journal and the logs there
pub record IsCrossing (i : Intersection) (vehicles : ℕ) (h : List Entry) (logs : List VehicleLog) : Type 0 where
  -- one legal history
  pub legal : IsLegal i vehicles h
  -- nobody else has an entry, and no order was given
  pub others : (n : ℕ) → ((k : ℕ) (x : VehicleLog) → slice_get logs k ≡ Some x → x.0 ≢ n) → entries_of h n ≡ []
  -- a driver that entered has a crossing, on a Confirm of its own vehicle
  pub crosses : (k : ℕ) (x : VehicleLog) (t : Entrance) → slice_get logs k ≡ Some x → first_entrance x.1 ≡ Some t → Crosses i h x.0 x.1 t
  -- each tile on which it is was reserved for it
  pub reserved : (k : ℕ) (x : VehicleLog) (c : Cell) → slice_get logs k ≡ Some x → is_occupied i h x.1 c ≡ true → IsReserved i h x.0 x.1 c
  -- no two drivers are on one tile in one step
  pub apart : (j k : ℕ) (x y : VehicleLog) → slice_get logs j ≡ Some x → slice_get logs k ≡ Some y → x.0 ≢ y.0 → (c : Cell) → is_occupied i h x.1 c ≡ true → is_occupied i h y.1 c ≡ false
  -- nor is a driver on a tile that the green of a lane other than its own claims then
  pub clear : (k : ℕ) (x : VehicleLog) (t : Passage) (c : Cell) → slice_get logs k ≡ Some x → passage i h x.1 ≡ Some t → is_on i t c ≡ true → claims.green i h c t.grant.params.lane ≡ None

-- all crossings and all vehicles
pub record AreTravelled (layouts : List Intersection) (vehicles until : ℕ) (hs : List (List Entry)) (rides : List Ride) : Type 0 where
  pub count : length hs ≡ length layouts
  pub crossings : (c : ℕ) (i : Intersection) (h : List Entry) → slice_get layouts c ≡ Some i → slice_get hs c ≡ Some h → IsCrossing i vehicles h (logs_at c rides)
  -- each driver's calls once, in its order, with the replies of its entries
  pub legs : (v : ℕ) → AreLegs until (journal_in hs) (Some 0) (rides_of v rides)
  -- no leg is begun before the one before is over
  pub routes : (v : ℕ) → IsRoute (map log_of (rides_of v rides))
