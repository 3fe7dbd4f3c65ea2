-- What the legs of a traveller are when its steps are over.
use Rattle.std.specs.Prelude.{◌≡◌, ℕ, ◌≤◌, List, [], ◌∷◌, ◌++◌, map, Option, Some, None}
use Rattle.aim_driver.specs.declared.logs.LogItem.{LogItem}
use Rattle.aim_driver.specs.Follows.{Call, follows}
use Rattle.aim_agents.specs.Agents.{AgentPass}
use Rattle.aim_agents.specs.Went.{Carry, replies}
use Rattle.aim_grid.specs.Acked.{acked, begun_at}
use Rattle.aim_grid.specs.Models.{LegModel, OverModel, TravellerModel}

-- what a leg comes to: the crossing, the driver's log, and the pass
abbrev pub LegTold : Type 0
LegTold = ℕ × List LogItem × AgentPass

abbrev pub told : OverModel → LegTold
told o = (o.0, o.1.log, o.2)

-- of a leg that isn't begun
abbrev pub told_unbegun : LegModel → LegTold
told_unbegun l = (l.crossing, [], l.pass)

-- of all legs: those that are over, the one that it is on, and those that wait
abbrev pub legs_told : TravellerModel → List LegTold
legs_told t = map told t.over ++ (t.crossing, t.agent.driver.log, t.agent.pass) ∷ map told_unbegun t.waiting

-- The leg was begun where the leg before got its Ack at the step. Its log and its calls are those that its driver follows with the replies of its calls,
-- over links that deliver all in time.
pub record IsFollowedLeg (until step : ℕ) (l : LegModel) (log : List LogItem) (pass : AgentPass) : Type 0 where
  pub calls : List Call
  pub carried : Carry pass.mine calls
  pub follows : follows (begun_at step l.plan) [] [] until (replies pass.mine) ≡ (log, calls)

-- a leg that is begun, or isn't
abbrev pub IsLegLeft : ℕ → Option ℕ → LegModel → LegTold → Type 0
IsLegLeft until (Some step) l x = IsFollowedLeg until step l x.1 x.2
IsLegLeft until None l x = (x.1 ≡ []) × (x.2.mine ≡ [])

-- The legs one behind the other: the first is begun at the step that is told, and each further one exactly where the one before got the Ack that answers
-- its DONE.
abbrev pub AreFollowed : ℕ → Option ℕ → List LegModel → List LegTold → Type 0
AreFollowed until begun [] [] = Unit {0}
AreFollowed until begun [] (x ∷ xs) = ⊥
AreFollowed until begun (l ∷ ls) [] = ⊥
AreFollowed until begun (l ∷ ls) (x ∷ xs) = (x.0 ≡ l.crossing) × IsLegLeft until begun l x × AreFollowed until (acked x.1) ls xs

-- no leg's plan begins with the very step that it is told from, and of no leg anything was done
abbrev pub AreFresh : List LegModel → Type 0
AreFresh [] = Unit {0}
AreFresh (l ∷ ls) = (1 ≤ l.plan.first) × (l.pass.mine ≡ []) × AreFresh ls
