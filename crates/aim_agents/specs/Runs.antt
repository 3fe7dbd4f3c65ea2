-- What the agents of a run do in one step.
use Rattle.std.specs.Prelude.{◌≡◌, ℕ, ◌+◌, ◌*◌, ◌<◌, ◌≤◌, List, length, Option, Some, None, slice_index_or, All}
use Rattle.aim_messages.specs.declared.entries.Entry.{Entry}
use Rattle.aim_turnstile.specs.Models.{TurnstileModel}
use Rattle.aim_turnstile.specs.History.{Begins}
use Rattle.aim_agents.specs.BookSetting.{BookSetting}
use Rattle.aim_agents.specs.Agents.{AgentModel, AgentPass, AgentFront, Idles, IsWhole}
use Rattle.aim_agents.specs.Places.{IsCallSince, Before, Any}
use Rattle.aim_agents.specs.Went.{Sees, Went}

-- R holds of the first n elements, before and after, and the others are as before
pub record Done (R : AgentModel → AgentModel → Type 0) (n : ℕ) (xs ys : List AgentModel) : Type 0 where
  pub len : length ys ≡ length xs
  pub each : (k : ℕ) (d : AgentModel) → k < n → R (slice_index_or xs k d) (slice_index_or ys k d)
  pub others : (k : ℕ) (d : AgentModel) → n ≤ k → slice_index_or ys k d ≡ slice_index_or xs k d

-- all of them idle at the steps from `first` on and below `last`
abbrev pub AllIdle : ℕ → ℕ → List AgentModel → Type 0
AllIdle first last xs = All (λ a. (step : ℕ) → first ≤ step → step < last → Idles a step) xs

abbrev pub shown_by : Option AgentFront → ℕ
shown_by None = 0
shown_by (Some f) = length f.seen

abbrev pub IsFrontOf : TurnstileModel BookSetting → Option AgentFront → Type 0
IsFrontOf t None = Unit {0}
IsFrontOf t (Some f) = f.table ≡ t.table

-- j and k are places in one run, j before k
pub record InRun (size j k : ℕ) : Type 0 where
  pub run : ℕ
  pub first : run * size ≤ j
  pub order : j < k
  pub last : k < run * size + size

-- the operator has seen what the first n agents have seen, who are as before
pub record Gathered (n : ℕ) (p q : AgentPass) (xs ys : List AgentModel) : Type 0 where
  pub sees : Sees p q
  pub whole : IsWhole p → IsWhole q
  pub same : Done (λ a b. b ≡ a) n xs ys
  pub seen : (k : ℕ) (d : AgentModel) → k < n → Begins (slice_index_or xs k d).pass.seen q.seen

module _ (s : BookSetting) where
  -- the agent has seen so many entries, and made no call
  pub record Followed (shown : ℕ) (a b : AgentModel) : Type 0 where
    pub went : (step : ℕ) → Went s step step a b
    pub reach : shown ≤ length b.pass.seen

  -- a turn whose calls stand behind so many entries
  pub record Behind (step shown : ℕ) (a b : AgentModel) : Type 0 where
    pub went : Went s step (step + 1) a b
    pub past : (k : ℕ) (e : Entry) → IsCallSince a b k e → shown ≤ k
    pub reach : shown ≤ length b.pass.seen

  -- the first n agents of a run took their turns, each behind the ones before, which have seen `shown` entries at most
  pub record Running (step n shown : ℕ) (xs ys : List AgentModel) : Type 0 where
    pub turns : Done (λ a b. Went s step (step + 1) a b × (length b.pass.seen ≤ shown)) n xs ys
    pub order : (j k : ℕ) (d : AgentModel) → j < k → k < n → Before Any (slice_index_or xs j d) (slice_index_or ys j d) (slice_index_or xs k d) (slice_index_or ys k d)

  -- the agents of a run took their turns, each behind the ones before
  pub record Ran (step : ℕ) (xs ys : List AgentModel) : Type 0 where
    pub len : length ys ≡ length xs
    pub each : (k : ℕ) (d : AgentModel) → k < length xs → Went s step (step + 1) (slice_index_or xs k d) (slice_index_or ys k d)
    pub order : (j k : ℕ) (d : AgentModel) → j < k → k < length xs → Before Any (slice_index_or xs j d) (slice_index_or ys j d) (slice_index_or xs k d) (slice_index_or ys k d)

  -- all agents took their turns, in runs of `size` neighbours
  pub record RunsWent (step size : ℕ) (xs ys : List AgentModel) : Type 0 where
    pub len : length ys ≡ length xs
    pub each : (k : ℕ) (d : AgentModel) → k < length xs → Went s step (step + 1) (slice_index_or xs k d) (slice_index_or ys k d)
    pub order : (j k : ℕ) (d : AgentModel) → InRun size j k → k < length xs → Before Any (slice_index_or xs j d) (slice_index_or ys j d) (slice_index_or xs k d) (slice_index_or ys k d)
