-- The calls that an agent's pass has seen of its own, and their places.
use Rattle.std.specs.Prelude.{◌≡◌, ℕ, zero, suc, ◌<◌, ◌≤◌, List, [], ◌∷◌, length}
use Rattle.aim_messages.specs.declared.entries.Entry.{Entry}
use Rattle.aim_agents.specs.Agents.{AgentPass, AgentModel}

-- e stands at place k
abbrev pub At : List Entry → ℕ → Entry → Type 0
At [] k e = ⊥
At (x ∷ xs) zero e = x ≡ e
At (x ∷ xs) (suc k) e = At xs k e

-- e is a call of the pass, and its place in what the pass has seen is k, which is `since` at least
pub record IsCall (p : AgentPass) (since k : ℕ) (e : Entry) : Type 0 where
  pub stands : At p.seen k e
  pub own : e.caller ≡ p.number
  pub later : since ≤ k

-- e is a call, at place k, that the agent made from the state a to the state b
abbrev pub IsCallSince : AgentModel → AgentModel → ℕ → Entry → Type 0
IsCallSince a b k e = IsCall b.pass (length a.pass.seen) k e

-- of a call from a to b and one from c to d, if R holds of them, the first has the lower place
abbrev pub Before : (Entry → Entry → Type 0) → AgentModel → AgentModel → AgentModel → AgentModel → Type 0
Before R a b c d = (k l : ℕ) (e f : Entry) → IsCallSince a b k e → IsCallSince c d l f → R e f → k < l

-- any two entries
abbrev pub Any : Entry → Entry → Type 0
Any e f = Unit {0}

abbrev pub Earlier : Entry → Entry → Type 0
Earlier e f = e.moment < f.moment

abbrev pub SameMoment : Entry → Entry → Type 0
SameMoment e f = e.moment ≡ f.moment
