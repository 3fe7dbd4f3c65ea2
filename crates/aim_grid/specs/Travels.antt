-- What travellers do, from one step to a later one.
use Rattle.std.specs.Prelude.{◌≡◌, ◌⊎◌, ℕ, ◌+◌, ◌<◌, ◌≤◌, Bool, true, false, List, [], ◌∷◌, ◌++◌, length, Some, None, slice_get, slice_index_or, All}
use Rattle.aim_driver.specs.Models.{step_of}
use Rattle.aim_turnstile.specs.Models.{TurnstileModel, IsPassOf}
use Rattle.aim_agents.specs.BookSetting.{BookSetting}
use Rattle.aim_agents.specs.Agents.{IsAgentOf, Idles}
use Rattle.aim_agents.specs.Went.{Went}
use Rattle.aim_grid.specs.Acked.{acked}
use Rattle.aim_grid.specs.Models.{LegModel, TravellerModel}
use Rattle.aim_grid.specs.Rode.{Managers, IsBegun, Rode}

-- what a traveller is that has set out with these legs and did nothing
pub record SetsOut (vehicle : ℕ) (legs : List LegModel) (t : TravellerModel) : Type 0 where
  pub first : LegModel
  pub rest : List LegModel
  pub legs_are : legs ≡ first ∷ rest
  pub vehicle_is : t.vehicle ≡ vehicle
  pub over : t.over ≡ []
  pub crossing : t.crossing ≡ first.crossing
  pub agent : IsBegun 0 first t.agent
  pub waiting : t.waiting ≡ rest

-- whether a traveller is through with its leg, has no trouble, and a further leg waits
abbrev pub GoesOn : TravellerModel → Bool → Type 0
GoesOn t true = (t.agent.trouble ≡ None) × (0 < length t.waiting) × (s : ℕ) × (acked t.agent.driver.log ≡ Some s)
GoesOn t false = t.agent.trouble ≡ None → (t.waiting ≡ []) ⊎ (acked t.agent.driver.log ≡ None)

-- its next leg begins behind the step
pub record Begins (step : ℕ) (t u : TravellerModel) : Type 0 where
  pub next : LegModel
  pub rest : List LegModel
  pub waited : t.waiting ≡ next ∷ rest
  pub vehicle : u.vehicle ≡ t.vehicle
  pub over : u.over ≡ t.over ++ (t.crossing, t.agent.driver, t.agent.pass) ∷ []
  pub crossing : u.crossing ≡ next.crossing
  pub agent : IsBegun step next u.agent
  pub waiting : u.waiting ≡ rest

-- the agents of all of them idle at the steps from `first` on and below `last`
abbrev pub AllIdle : ℕ → ℕ → List TravellerModel → Type 0
AllIdle first last ts = All (λ (t : TravellerModel). (step : ℕ) → first ≤ step → step < last → Idles t.agent step) ts

module _ (managers : Managers) where
  -- a leg at one of the managers' crossings, with a vehicle's pass of that manager and sheets of the room that its layout wants
  pub record IsLegAt (l : LegModel) : Type 0 where
    pub manager : TurnstileModel BookSetting
    pub stands : slice_get managers l.crossing ≡ Some manager
    pub pass : IsPassOf manager l.pass
    pub vehicle : l.pass.number < manager.setting.vehicles
    pub room : l.pool.room ≡ manager.setting.layout.grid.spans

  -- the leg that it is on, and those that wait, are at crossings of the managers
  pub record IsTravellerOf (t : TravellerModel) : Type 0 where
    pub manager : TurnstileModel BookSetting
    pub stands : slice_get managers t.crossing ≡ Some manager
    pub agent : IsAgentOf manager t.agent
    pub waiting : All IsLegAt t.waiting

  -- one of them that is ready for its turn of the step
  pub record IsReady (step : ℕ) (t : TravellerModel) : Type 0 where
    pub own : IsTravellerOf t
    pub late : step_of t.agent.driver.log ≤ step

  -- the agent of the leg that it is on took its turn of the step
  pub record TakesTurn (step : ℕ) (t u : TravellerModel) : Type 0 where
    pub manager : TurnstileModel BookSetting
    pub stands : slice_get managers t.crossing ≡ Some manager
    pub rest : u ≡ record t { agent = u.agent }
    pub went : Went manager.setting step (step + 1) t.agent u.agent

  -- It took its turns of the steps from `from` on and below `last`, with whatever legs it had set out and when.
  pub record Moves (from last : ℕ) (t u : TravellerModel) : Type 0 where
    pub vehicle : u.vehicle ≡ t.vehicle
    pub ready : IsReady last u
    pub rode : (first : ℕ) (legs : List LegModel) → Rode managers first from legs t → Rode managers first last legs u

  -- so did all of them
  pub record Travels (from last : ℕ) (ts us : List TravellerModel) : Type 0 where
    pub len : length us ≡ length ts
    pub each : (k : ℕ) (d : TravellerModel) → k < length ts → Moves from last (slice_index_or ts k d) (slice_index_or us k d)
