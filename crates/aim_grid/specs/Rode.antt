-- What a traveller did since it set out.
use Rattle.std.specs.Prelude.{◌≡◌, ◌⊎◌, ℕ, ◌+◌, List, [], ◌∷◌, Some, None, slice_get}
use Rattle.aim_driver.specs.declared.plans.DrivePlan.{DrivePlan}
use Rattle.aim_turnstile.specs.Models.{TurnstileModel}
use Rattle.aim_agents.specs.BookSetting.{BookSetting}
use Rattle.aim_agents.specs.Agents.{AgentModel, AgentPass}
use Rattle.aim_agents.specs.Followed.{IsNew}
use Rattle.aim_agents.specs.Went.{Went}
use Rattle.aim_grid.specs.Acked.{acked, begun_at}
use Rattle.aim_grid.specs.Models.{LegModel, OverModel, TravellerModel}

abbrev pub Managers : Type 0
Managers = List (TurnstileModel BookSetting)

-- a new agent with the plan and the pass, its sheets of that room, and links that deliver all in time
pub record IsMade (plan : DrivePlan) (pass : AgentPass) (room : ℕ) (a : AgentModel) : Type 0 where
  pub new : IsNew a
  pub plan_is : a.driver.plan ≡ plan
  pub up : a.up.fates ≡ []
  pub down : a.down.fates ≡ []
  pub pass_is : a.pass ≡ pass
  pub room_is : a.pool.room ≡ room

-- a new agent for the leg, where the leg before got its Ack at the step, or none was before and the step is 0
abbrev pub IsBegun : ℕ → LegModel → AgentModel → Type 0
IsBegun step l a = IsMade (begun_at step l.plan) l.pass l.pool.room a

module _ (managers : Managers) where
  -- The leg was begun where the leg before got its Ack at the step `at`, and its agent took its turns of the steps from
  -- `from` on and below `last`.
  pub record IsRidden (at from last : ℕ) (l : LegModel) (crossing : ℕ) (a : AgentModel) : Type 0 where
    pub manager : TurnstileModel BookSetting
    pub stands : slice_get managers l.crossing ≡ Some manager
    pub crossing_is : crossing ≡ l.crossing
    pub begun : AgentModel
    pub is_begun : IsBegun at l begun
    pub went : Went manager.setting from last begun a

  -- the agent got its Ack at the step `last`, and has no trouble
  pub record IsOver (at from last : ℕ) (l : LegModel) (o : OverModel) : Type 0 where
    pub agent : AgentModel
    pub ridden : IsRidden at from (last + 1) l o.0 agent
    pub driver : agent.driver ≡ o.1
    pub pass : agent.pass ≡ o.2
    pub calm : agent.trouble ≡ None
    pub acked : acked agent.driver.log ≡ Some last

  -- The legs that are over, each of which was begun in the step behind the Ack of the one before; then the leg that it is
  -- on, in the steps below `last`; and then those that wait, unless the agent is in trouble, for its Ack.
  abbrev pub IsAlong : ℕ → ℕ → ℕ → List LegModel → List OverModel → ℕ → AgentModel → List LegModel → Type 0
  IsAlong at from last [] os crossing a waiting = ⊥
  IsAlong at from last (l ∷ ls) [] crossing a waiting =
      IsRidden at from last l crossing a × (waiting ≡ ls) × ((a.trouble ≡ None) → (waiting ≡ []) ⊎ (acked a.driver.log ≡ None))
  IsAlong at from last (l ∷ ls) (o ∷ os) crossing a waiting =
      (s : ℕ) × IsOver at from s l o × IsAlong s (s + 1) last ls os crossing a waiting

  -- a traveller that set out with these legs at the step `first`, and took its turns of the steps below `last`
  abbrev pub Rode : ℕ → ℕ → List LegModel → TravellerModel → Type 0
  Rode first last legs t = IsAlong 0 first last legs t.over t.crossing t.agent t.waiting
