-- Sums over lists, and what holds of each element.
use Rattle.std.specs.Prelude.{ℕ, zero, suc, ◌+◌, ◌==◌, if◌then◌else◌, List, [], ◌∷◌}

-- P holds of each element
abbrev pub Every : {A : Type 0} → (A → Type 0) → List A → Type 0
Every P [] = Unit {0}
Every P (x ∷ xs) = P x × Every P xs

-- f of each element, added up
abbrev pub total : {A : Type 0} → (A → ℕ) → List A → ℕ
total f [] = 0
total f (x ∷ xs) = f x + total f xs

-- 1 where the numbers are equal
abbrev pub is : ℕ → ℕ → ℕ
is n m = if m == n then 1 else 0

-- k where the quadrants p and q are one
abbrev pub at : ℕ → ℕ → ℕ → ℕ
at q p k = if p == q then k else 0

-- h of each number below n, added up
abbrev pub below : (ℕ → ℕ) → ℕ → ℕ
below h zero = 0
below h (suc n) = below h n + h n
