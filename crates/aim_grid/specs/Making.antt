-- The legs and travellers that are made of planned legs, and the seats that they take.
use Rattle.std.specs.Prelude.{◌≡◌, ◌≢◌, ℕ, ◌+◌, ◌*◌, List, [], ◌∷◌, ◌++◌, length, map, Option, Some, None, slice_get, slice_index_or, All, AllPairs, Contains}
use Rattle.std.specs.List.{AllZip, range_with_len}
use Rattle.aim_messages.specs.declared.entries.TheConstants.{OPERATOR}
use Rattle.aim_layout.specs.Intersection.{Intersection}
use Rattle.aim_layout.specs.Valid.{IsValid}
use Rattle.aim_turnstile.specs.Models.{TurnstileModel, new_pass}
use Rattle.aim_grid.specs.BookSetting.{BookSetting}
use Rattle.aim_grid.specs.Agents.{AgentPass}
use Rattle.aim_grid.specs.Models.{LegModel, TravellerModel}
use Rattle.aim_grid.specs.Rode.{Managers}
use Rattle.aim_grid.specs.Travels.{SetsOut}
use Rattle.aim_grid_script.specs.declared.routes.PlannedLeg.{PlannedLeg}
use Rattle.aim_grid_script.specs.Fits.{AreLegs}
use Rattle.aim_grid.specs.declared.seats.Seats.{Seats}
use Rattle.aim_grid.specs.Runs.{legs_for}

-- a vehicle's seat at a crossing: the vehicle, and the crossing
abbrev pub Seat : Type 0
Seat = ℕ × ℕ

abbrev pub seat_of : PlannedLeg → Seat
seat_of l = (l.vehicle, l.crossing)

-- none of them is the vehicle's at the crossing
abbrev pub AreOthers : ℕ → ℕ → List Seat → Type 0
AreOthers v c [] = Unit {0}
AreOthers v c (s ∷ ss) = (s.0 ≡ v → s.1 ≢ c) × AreOthers v c ss

-- the pass that is held for a vehicle, if none of its legs has it
abbrev pub held : Seats → ℕ → Option AgentPass
held s v = slice_index_or s.passes.items v None

-- what no call changes of the manager of a crossing
abbrev pub setting_of : ℕ → Intersection → BookSetting
setting_of vehicles i = record { layout = i; vehicles = vehicles; room = 128 * vehicles + 1 }

abbrev pub setting_in : TurnstileModel BookSetting → BookSetting
setting_in m = m.setting

-- the seats of a new manager
pub record AreNew (m : TurnstileModel BookSetting) (s : Seats) : Type 0 where
  pub passes : s.passes.items ≡ map (λ v. Some (new_pass m v)) (range_with_len 0 m.setting.vehicles)
  pub operator : s.operator ≡ new_pass m OPERATOR
  pub logs : s.logs.items ≡ []

-- a manager for each layout, with its seats
pub record AreOpen (layouts : List Intersection) (vehicles : ℕ) (ms : Managers) (seats : List Seats) : Type 0 where
  pub settings : map setting_in ms ≡ map (setting_of vehicles) layouts
  pub valid : All (λ m. IsValid m.setting.layout) ms
  pub seats_are : AllZip AreNew ms seats

-- the pass of a vehicle was taken, and all else stayed
pub record IsTakenAt (vehicle : ℕ) (old new : Seats) : Type 0 where
  pub many : length new.passes.items ≡ length old.passes.items
  pub operator : new.operator ≡ old.operator
  pub logs : new.logs.items ≡ old.logs.items
  pub others : (v : ℕ) → v ≢ vehicle → held new v ≡ held old v

-- the seats of a crossing, where only passes of these seats were taken
pub record Keeps (c : ℕ) (taken : List Seat) (old new : Seats) : Type 0 where
  pub many : length new.passes.items ≡ length old.passes.items
  pub operator : new.operator ≡ old.operator
  pub logs : new.logs.items ≡ old.logs.items
  pub others : (v : ℕ) → AreOthers v c taken → held new v ≡ held old v

pub record AllKeep (taken : List Seat) (old new : List Seats) : Type 0 where
  pub count : length new ≡ length old
  pub each : (c : ℕ) (s t : Seats) → slice_get old c ≡ Some s → slice_get new c ≡ Some t → Keeps c taken s t

-- the vehicle's seat at the crossing has its new pass
pub record HasNew (ms : Managers) (seats : List Seats) (p : PlannedLeg) : Type 0 where
  pub manager : TurnstileModel BookSetting
  pub there : Seats
  pub stands : slice_get ms p.crossing ≡ Some manager
  pub at : slice_get seats p.crossing ≡ Some there
  pub new : held there p.vehicle ≡ Some (new_pass manager p.vehicle)

module _ (ms : Managers) where
  -- the leg that is made of a planned one: with the vehicle's new pass of the manager there, and three sheets of the room that its layout wants
  pub record IsMadeLeg (p : PlannedLeg) (l : LegModel) : Type 0 where
    pub manager : TurnstileModel BookSetting
    pub stands : slice_get ms p.crossing ≡ Some manager
    pub crossing : l.crossing ≡ p.crossing
    pub plan_is : l.plan ≡ p.plan
    pub pass : l.pass ≡ new_pass manager p.vehicle
    pub sheets : l.pool.count ≡ 3
    pub room : l.pool.room ≡ manager.setting.layout.grid.spans

  -- a traveller that set out with all legs of its vehicle
  pub record IsSetOut (legs : List PlannedLeg) (t : TravellerModel) : Type 0 where
    pub made : List LegModel
    pub legs_are : AllZip IsMadeLeg (legs_for t.vehicle legs) made
    pub out : SetsOut t.vehicle made t

  -- travellers of different vehicles, among them those of these legs
  pub record AreSetOut (legs seen : List PlannedLeg) (ts : List TravellerModel) : Type 0 where
    pub each : All (IsSetOut legs) ts
    pub one_each : AllPairs (λ t u. t.vehicle ≢ u.vehicle) ts
    pub everyone : All (λ (p : PlannedLeg). Contains (map (λ (t : TravellerModel). t.vehicle) ts) p.vehicle) seen

-- the crossings are newly open, and the legs fit them
pub record AreReady (ms : Managers) (seats : List Seats) (legs : List PlannedLeg) : Type 0 where
  pub layouts : List Intersection
  pub vehicles : ℕ
  pub open_are : AreOpen layouts vehicles ms seats
  pub fit : AreLegs vehicles (length ms) legs

-- the legs of these vehicles, one vehicle after another
abbrev pub legs_of_all : List PlannedLeg → List ℕ → List PlannedLeg
legs_of_all legs [] = []
legs_of_all legs (v ∷ vs) = legs_for v legs ++ legs_of_all legs vs

abbrev pub vehicles_of : List TravellerModel → List ℕ
vehicles_of ts = map (λ (t : TravellerModel). t.vehicle) ts
