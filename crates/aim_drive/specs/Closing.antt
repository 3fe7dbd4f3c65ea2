-- What is ready for a drive, and what closing leaves of it. No public clause cites this file.
use Rattle.std.specs.Prelude.{◌≡◌, ◌≢◌, ℕ, ◌+◌, ◌*◌, ◌≤◌, List, [], ◌∷◌, ◌++◌, length, map, Some, All, Contains, IsPermutation, sum_by}
use Rattle.aim_messages.specs.declared.entries.Entry.{Entry}
use Rattle.aim_messages.specs.declared.entries.TheConstants.{OPERATOR}
use Rattle.aim_layout.specs.Valid.{IsValid}
use Rattle.aim_rules.specs.Legal.{IsLegal}
use Rattle.aim_turnstile.specs.History.{entries_of}
use Rattle.aim_turnstile.specs.Models.{TurnstileModel, HasPass, new_pass}
use Rattle.aim_agents.specs.Seen.{caller_of, callers}
use Rattle.aim_agents.specs.BookSetting.{BookSetting}
use Rattle.aim_driver.specs.declared.orders.Ordered.{Ordered}
use Rattle.aim_drive_script.specs.declared.scripts.Planned.{Planned}
use Rattle.aim_drive_script.specs.Scripts.{drive_told}
use Rattle.aim_agents.specs.declared.agents.Trouble.TheVariants as trouble
use Rattle.aim_agents.specs.Agents.{AgentModel, AgentPass, IsFull}
use Rattle.aim_agents.specs.Rounds.{run_size}
use Rattle.aim_drive.specs.declared.running.Drove.{Drove}
use Rattle.aim_drive.specs.Headline.{Headline}
use Rattle.aim_drive.specs.Making.{AreAgentsFor, AreLeft, ArePlans, log_of, told_by}

-- an agent found memory, and where it is in trouble the journal was full
abbrev pub HasMemory : AgentModel → Type 0
HasMemory a = (a.trouble ≢ Some trouble.NoMemory) × (a.trouble ≡ Some trouble.Full → IsFull a.pass)

-- what closing tells of these passes and the operator's
pub record IsClosed (s : BookSetting) (ps : List AgentPass) (op : AgentPass) (h : List Entry) : Type 0 where
  pub legal : IsLegal s.layout s.vehicles h
  pub passes : All (HasPass caller_of h) (ps ++ op ∷ [])
  pub numbers : IsPermutation (map (λ (p : AgentPass). p.number) (ps ++ op ∷ [])) (callers s.vehicles)
  pub others : (n : ℕ) → (Contains (callers s.vehicles) n → ⊥) → entries_of caller_of n h ≡ []
  pub count : length h ≡ sum_by (λ (p : AgentPass). length p.mine) (ps ++ op ∷ [])

-- what agents that found memory leave, with the passes of the other vehicles and the operator's
pub record Leaves (s : BookSetting) (agents : List AgentModel) (passes : List AgentPass) (op : AgentPass) (d : Drove) : Type 0 where
  pub memory : All HasMemory agents
  pub closed : IsClosed s (passes ++ map (λ (a : AgentModel). a.pass) agents) op d.journal.items
  pub fits : length d.journal.items ≤ s.room
  pub logs : map log_of d.logs.items ≡ map told_by agents

module _ (m : TurnstileModel BookSetting) where
  -- A new manager with room for all calls and so many orders, an agent for each of some plans, the passes of the other vehicles and the operator's.
  pub record IsSeated (orders : ℕ) (agents : List AgentModel) (passes : List AgentPass) (op : AgentPass) : Type 0 where
    pub spans : ℕ
    pub plans : List Planned
    pub are : ArePlans m.setting.vehicles plans
    pub made : AreAgentsFor m spans plans agents
    pub left : AreLeft m agents passes
    pub room : m.setting.room ≡ 128 * m.setting.vehicles + orders + 1
    pub sheets : spans ≡ m.setting.layout.grid.spans
    pub operator : op ≡ new_pass m OPERATOR
    pub valid : IsValid m.setting.layout

  -- the headline, with all plans that the agents were made for
  abbrev pub HeadlineOfSeated : ℕ → ℕ → List AgentModel → List Ordered → Drove → Type 0
  HeadlineOfSeated until workers agents orders d = (spans : ℕ) (plans : List Planned) → ArePlans m.setting.vehicles plans → AreAgentsFor m spans plans agents
      → Headline m.setting.layout m.setting.vehicles until (run_size (length agents) workers) (map drive_told plans) orders d.journal.items (map log_of d.logs.items)
