-- Rounds and orders, one after the other, and what the journal then is.
use Rattle.std.specs.Prelude.{◌≡◌, ℕ, ◌<◌, ◌≤◌, ◌⊎◌, List, [], length, slice_index_or, All}
use Rattle.aim_messages.specs.declared.entries.Entry.{Entry}
use Rattle.aim_turnstile.specs.Models.{HasPass}
use Rattle.aim_agents.specs.Seen.{caller_of}
use Rattle.aim_agents.specs.BookSetting.{BookSetting}
use Rattle.aim_agents.specs.Agents.{AgentModel, AgentPass, IsWhole}
use Rattle.aim_agents.specs.Places.{At, IsCall, IsCallSince, Before, Earlier, SameMoment}
use Rattle.aim_agents.specs.Went.{Went}
use Rattle.aim_agents.specs.Runs.{InRun}

-- the caller is the operator, or one of the agents
abbrev pub IsKnown : AgentPass → List AgentModel → Entry → Type 0
IsKnown op ys e = (e.caller ≡ op.number) ⊎ ((j : ℕ) × (j < length ys) × ((d : AgentModel) → e.caller ≡ (slice_index_or ys j d).pass.number))

-- What a journal is in which the moments don't fall, the orders of a moment come first, and the calls of a run stand in the order of its agents.
pub record InOrder (size : ℕ) (op : AgentPass) (ys : List AgentModel) (h : List Entry) : Type 0 where
  pub moments : (i j : ℕ) (e f : Entry) → At h i e → At h j f → i < j → e.moment ≤ f.moment
  pub orders : (i j : ℕ) (e f : Entry) → At h i e → At h j f → i < j → e.moment ≡ f.moment → f.caller ≡ op.number → e.caller ≡ op.number
  pub runs : (j k : ℕ) (d : AgentModel) → InRun size j k → k < length ys → (p q : ℕ) (e f : Entry) → At h p e → At h q f → e.caller ≡ (slice_index_or ys j d).pass.number → f.caller ≡ (slice_index_or ys k d).pass.number → e.moment ≡ f.moment → p < q

-- the journal after closing: it has all passes, and no strangers
pub record Closes (op : AgentPass) (ys : List AgentModel) (h : List Entry) : Type 0 where
  pub operator : HasPass caller_of h op
  pub agents : All (λ a. HasPass caller_of h a.pass) ys
  pub known : (i : ℕ) (e : Entry) → At h i e → IsKnown op ys e

module _ (s : BookSetting) where
  -- one agent since it was new, beside the operator's orders: an order stands before the calls of its moment and of later ones, and behind those of earlier ones
  pub record DrivenOf (step : ℕ) (op : AgentPass) (a b : AgentModel) : Type 0 where
    pub went : Went s 0 step a b
    pub covered : (k : ℕ) (e : Entry) → IsCallSince a b k e → k < length op.seen
    pub behind : (k l : ℕ) (e f : Entry) → IsCall op 0 k e → IsCallSince a b l f → e.moment ≤ f.moment → k < l
    pub ahead : (k l : ℕ) (e f : Entry) → IsCall op 0 k e → IsCallSince a b l f → f.moment < e.moment → l < k

  -- the operator and all agents, after the steps below `step` and orders of moments up to it
  pub record Driven (step size : ℕ) (op : AgentPass) (xs ys : List AgentModel) : Type 0 where
    pub whole : IsWhole op
    pub len : length ys ≡ length xs
    pub orders : (k : ℕ) (e : Entry) → IsCall op 0 k e → e.moment ≤ step
    pub rising : (k l : ℕ) (e f : Entry) → IsCall op 0 k e → IsCall op 0 l f → e.moment < f.moment → k < l
    pub each : (k : ℕ) (d : AgentModel) → k < length xs → DrivenOf step op (slice_index_or xs k d) (slice_index_or ys k d)
    pub steps : (j k : ℕ) (d : AgentModel) → j < length xs → k < length xs → Before Earlier (slice_index_or xs j d) (slice_index_or ys j d) (slice_index_or xs k d) (slice_index_or ys k d)
    pub runs : (j k : ℕ) (d : AgentModel) → InRun size j k → k < length xs → Before SameMoment (slice_index_or xs j d) (slice_index_or ys j d) (slice_index_or xs k d) (slice_index_or ys k d)

  -- the headline's clauses on the order of the journal
  abbrev pub JournalInOrder : Type 0
  JournalInOrder = (step size : ℕ) (op : AgentPass) (xs ys : List AgentModel) (h : List Entry) → All (λ a. (a.pass.seen ≡ []) × (a.pass.mine ≡ [])) xs → Driven step size op xs ys → Closes op ys h → InOrder size op ys h
