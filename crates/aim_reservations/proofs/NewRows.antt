-- The rows of a table with no reservation.
use Rattle.std.proofs.Common.{◌≡◌, ℕ, ◌+◌, ◌≤◌, List, [], ◌∷◌, ◌++◌, Option, None, arith, ◌∙◌, ap}
use Rattle.std.specs.Prelude.{replicate}
use Rattle.std.proofs.lemmas.List.{replicate_more}

-- one row more
pub none_more : {A : Type 0} (rows more : List (Option A)) (n : ℕ) → more ≡ rows ++ None ∷ [] → rows ≡ replicate n None → more ≡ replicate (n + 1) None
none_more {A} rows more n pushed are = pushed ∙ ap (λ (rows : List (Option A)). rows ++ None ∷ []) are ∙ replicate_more n None

-- all rows
pub none_all : {A : Type 0} (rows : List (Option A)) (n count : ℕ) → rows ≡ replicate n None → n ≤ count → count ≤ n → rows ≡ replicate count None
none_all {A} rows n count are most least = are ∙ ap (λ n. replicate {A = Option A} n None) (omega arith)
