-- Two lists that have each number as often are one list in two orders.
use Rattle.std.proofs.Common.{◌≡◌, ℕ, suc, ◌<◌, ◌≤◌, List, [], ◌∷◌, length, get_or, map, refl, sym, ◌∙◌, arith}
use Rattle.std.specs.Prelude.{IsPermutation, remove}
use Rattle.std.proofs.lemmas.List.Sorted.{IsPermutation-refl, IsPermutation-cons, IsPermutation-trans, IsPermutation-remove, sum_by-IsPermutation}
use mathlib.Core.Logic.{dite}
use native.Mathlib.Decide.{ℕ_discrete}
use Rattle.aim_turnstile.specs.Models.{PassModel}
use Rattle.aim_turnstile.specs.Turned.{total, is}
use Rattle.aim_turnstile.proofs.Totals.{is_self, is_none, sum_by-total}
use Rattle.aim_turnstile.proofs.Tallies.{total_map}

-- where a number stands
place : (n : ℕ) (xs : List ℕ) → 1 ≤ total (is n) xs → (i : ℕ) × (i < length xs) × (n ≡ get_or xs i n)
place n [] le = absurd (omega arith)
place n (x ∷ xs) le = dite (ℕ_discrete x n) (λ e. (0, omega arith, sym e)) (λ ne. let t = place n xs (omega (arith, is_none n x ne)) in (suc t.0, omega (arith, t.1), t.2))

IsPermutation-from_totals : (xs ys : List ℕ) → ((n : ℕ) → total (is n) xs ≡ total (is n) ys) → IsPermutation xs ys
IsPermutation-from_totals [] [] h = IsPermutation-refl []
IsPermutation-from_totals (x ∷ xs) [] h = absurd (omega (arith, h x, is_self x x refl))
IsPermutation-from_totals xs (y ∷ ys) h =
    let t = place y xs (omega (arith, h y, is_self y y refl)) in
    let out = IsPermutation-remove xs t.0 y t.1 t.2 in
    let sums : (n : ℕ) → total (is n) (y ∷ remove xs t.0) ≡ total (is n) xs = λ n. sym (sum_by-total (is n) (y ∷ remove xs t.0)) ∙ sum_by-IsPermutation (is n) xs (y ∷ remove xs t.0) out ∙ sum_by-total (is n) xs in
    IsPermutation-trans xs (y ∷ remove xs t.0) (y ∷ ys) out (IsPermutation-cons y (remove xs t.0) ys (IsPermutation-from_totals (remove xs t.0) ys (λ n. omega (arith, h n, sums n))))

-- the passes have the numbers, in some order
pub numbers_of : {S E : Type 0} (ps : List (PassModel S E)) (numbers : List ℕ) → ((f : ℕ → ℕ) → total (λ p. f p.number) ps ≡ total f numbers) → IsPermutation (map (λ p. p.number) ps) numbers
numbers_of {S} {E} ps numbers h = IsPermutation-from_totals (map (λ (p : PassModel S E). p.number) ps) numbers (λ n. total_map (is n) (λ (p : PassModel S E). p.number) ps ∙ h (is n))
