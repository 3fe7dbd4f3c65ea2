-- A run of routes over several crossings: the journal of each crossing, and the logs there.
use Rattle.std.specs.Prelude.{◌≡◌, ℕ, ◌==◌, List, length, map, Some, slice_get}
use Rattle.std.specs.List.{filter}
use Rattle.aim_messages.specs.declared.entries.Entry.{Entry}
use Rattle.aim_layout.specs.Intersection.{Intersection}
use Rattle.aim_grid_script.specs.declared.routes.PlannedLeg.{PlannedLeg}
use Rattle.aim_drive.specs.Headline.{VehicleLog}
use Rattle.aim_drive.specs.declared.running.Drove.{Drove}
use Rattle.aim_drive.specs.Making.{log_of}
use Rattle.aim_grid.specs.Travelled.{Ride, AreTravelled, logs_at, rides_of}

-- what a leg is to be
abbrev pub planned_of : Ride → PlannedLeg
planned_of r = record { vehicle = r.vehicle; crossing = r.crossing; plan = r.plan }

-- a vehicle's legs, in their order
abbrev pub legs_for : ℕ → List PlannedLeg → List PlannedLeg
legs_for v legs = filter (λ (l : PlannedLeg). l.vehicle == v) legs

-- The journals and the logs are those of travels on these legs: each vehicle's rides are its legs, in their order, and the logs of a crossing are those
-- of the rides there.
pub record IsRunOf (layouts : List Intersection) (vehicles until : ℕ) (legs : List PlannedLeg) (hs : List (List Entry)) (logs : List (List VehicleLog)) : Type 0 where
  pub rides : List Ride
  pub travelled : AreTravelled layouts vehicles until hs rides
  pub planned : (v : ℕ) → map planned_of (rides_of v rides) ≡ legs_for v legs
  pub count : length logs ≡ length layouts
  pub there : (c : ℕ) (xs : List VehicleLog) → slice_get logs c ≡ Some xs → xs ≡ logs_at c rides

-- what is left of a crossing: its journal, and the logs there
abbrev pub journal_left : Drove → List Entry
journal_left d = d.journal.items

abbrev pub logs_left : Drove → List VehicleLog
logs_left d = map log_of d.logs.items
