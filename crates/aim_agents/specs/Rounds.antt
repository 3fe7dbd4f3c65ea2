-- What rounds do.
use Rattle.std.specs.Prelude.{◌≡◌, ℕ, ◌+◌, ◌/◌, ◌%◌, min, ◌<◌, ◌≤◌, List, length, slice_index_or}
use Rattle.aim_messages.specs.declared.entries.Entry.{Entry}
use Rattle.aim_turnstile.specs.Models.{IsSamePass}
use Rattle.aim_turnstile.specs.History.{Begins}
use Rattle.aim_agents.specs.BookSetting.{BookSetting}
use Rattle.aim_agents.specs.Agents.{AgentModel, AgentPass, IsWhole}
use Rattle.aim_agents.specs.Places.{IsCallSince, Before, Any, Earlier, SameMoment}
use Rattle.aim_agents.specs.Went.{Sees, Went}
use Rattle.aim_agents.specs.Runs.{InRun}

-- ceil(count/workers)
abbrev pub run_size : ℕ → ℕ → ℕ
run_size count workers = count / workers + min 1 (count % workers)

module _ (s : BookSetting) where
  -- one agent in one step: its turn, what the operator then saw, and what the agent saw of the operator, which takes no
  -- step and changes its pass alone
  pub record StepOf (step : ℕ) (op : AgentPass) (a b : AgentModel) : Type 0 where
    pub mid : AgentModel
    pub went : Went s step (step + 1) a mid
    pub told : Begins mid.pass.seen op.seen
    pub back : (n : ℕ) → Went s n n mid b
    pub rest : b ≡ record mid { pass = b.pass }
    pub knows : Begins op.seen b.pass.seen

  pub record Stepped (step size : ℕ) (op op' : AgentPass) (xs ys : List AgentModel) : Type 0 where
    pub operator : Sees op op'
    pub whole : IsWhole op → IsWhole op'
    pub same : IsSamePass op op'
    pub len : length ys ≡ length xs
    pub each : (k : ℕ) (d : AgentModel) → k < length xs → StepOf step op' (slice_index_or xs k d) (slice_index_or ys k d)
    pub order : (j k : ℕ) (d : AgentModel) → InRun size j k → k < length xs → Before Any (slice_index_or xs j d) (slice_index_or ys j d) (slice_index_or xs k d) (slice_index_or ys k d)

  -- what one agent's pass had seen after its last turn, the operator's has seen, and what the operator's has seen, the agent's has
  pub record ToldLast (first last : ℕ) (op : AgentPass) (a b : AgentModel) : Type 0 where
    pub mid : AgentModel
    pub went : Went s first last a mid
    pub told : Begins mid.pass.seen op.seen
    pub back : Went s last last mid b

  -- one agent after the steps from `first` on and below `step`
  pub record RoundingOf (first step : ℕ) (op0 op : AgentPass) (a b : AgentModel) : Type 0 where
    pub went : Went s first step a b
    pub knows : Begins op.seen b.pass.seen
    pub past : (k : ℕ) (e : Entry) → IsCallSince a b k e → length op0.seen ≤ k
    pub covered : (k : ℕ) (e : Entry) → IsCallSince a b k e → k < length op.seen
    pub told : first < step → ToldLast first step op a b
    pub back : (lt : first < step) → (n : ℕ) → Went s n n (told lt).mid b
    pub rest : (lt : first < step) → b ≡ record (told lt).mid { pass = b.pass }

  -- all agents after the steps from `first` on and below `step`
  pub record Rounding (first step size : ℕ) (op0 op : AgentPass) (xs ys : List AgentModel) : Type 0 where
    pub operator : Sees op0 op
    pub whole : IsWhole op0 → IsWhole op
    pub same : IsSamePass op0 op
    pub len : length ys ≡ length xs
    pub each : (k : ℕ) (d : AgentModel) → k < length xs → RoundingOf first step op0 op (slice_index_or xs k d) (slice_index_or ys k d)
    pub steps : (j k : ℕ) (d : AgentModel) → j < length xs → k < length xs → Before Earlier (slice_index_or xs j d) (slice_index_or ys j d) (slice_index_or xs k d) (slice_index_or ys k d)
    pub runs : (j k : ℕ) (d : AgentModel) → InRun size j k → k < length xs → Before SameMoment (slice_index_or xs j d) (slice_index_or ys j d) (slice_index_or xs k d) (slice_index_or ys k d)

  -- What rounds promise. Each agent goes by the rules. The operator's pass makes no call. The calls of these rounds stand behind what the operator had seen,
  -- those of a step behind those of earlier steps, and in one run and step they stand in the order of the agents.
  pub record Rounds (first last size : ℕ) (op0 op : AgentPass) (xs ys : List AgentModel) : Type 0 where
    pub operator : Sees op0 op
    pub whole : IsWhole op0 → IsWhole op
    pub same : IsSamePass op0 op
    pub len : length ys ≡ length xs
    pub went : (k : ℕ) (d : AgentModel) → k < length xs → Went s first last (slice_index_or xs k d) (slice_index_or ys k d)
    pub knows : first < last → (k : ℕ) (d : AgentModel) → k < length xs → Begins op.seen (slice_index_or ys k d).pass.seen
    pub told : first < last → (k : ℕ) (d : AgentModel) → k < length xs → ToldLast first last op (slice_index_or xs k d) (slice_index_or ys k d)
    pub past : (j : ℕ) (d : AgentModel) → j < length xs → (k : ℕ) (e : Entry) → IsCallSince (slice_index_or xs j d) (slice_index_or ys j d) k e → length op0.seen ≤ k
    pub steps : (j k : ℕ) (d : AgentModel) → j < length xs → k < length xs → Before Earlier (slice_index_or xs j d) (slice_index_or ys j d) (slice_index_or xs k d) (slice_index_or ys k d)
    pub runs : (j k : ℕ) (d : AgentModel) → InRun size j k → k < length xs → Before SameMoment (slice_index_or xs j d) (slice_index_or ys j d) (slice_index_or xs k d) (slice_index_or ys k d)
