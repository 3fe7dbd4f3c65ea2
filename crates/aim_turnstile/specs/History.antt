-- Histories: lists of entries, each of one caller.
use Rattle.std.specs.Prelude.{◌≡◌, ℕ, ◌==◌, List, ◌++◌, filter}

-- the entries of the caller n, in order
abbrev pub entries_of : {E : Type 0} → (E → ℕ) → ℕ → List E → List E
entries_of caller_of n log = filter (λ e. caller_of e == n) log

-- log begins with seen
abbrev pub Begins : {E : Type 0} → List E → List E → Type 0
Begins {E} seen log = (rest : List E) × (log ≡ seen ++ rest)
