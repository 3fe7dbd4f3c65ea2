-- How long a history is, by what each caller has of it.
use Rattle.std.proofs.Common.{◌≡◌, ℕ, zero, suc, ◌+◌, ◌≤◌, ◌==◌, Bool, true, false, List, [], ◌∷◌, length, map, refl, sym, ap, ◌∙◌, arith}
use Rattle.std.specs.Prelude.{if◌then◌else◌}
use Rattle.std.proofs.lemmas.Bool.Decides.{nat_tests}
use mathlib.Core.Option.{some, some-ne-none, some-injective}
use lib.ListN.{get_elem?}
use Rattle.aim_turnstile.specs.History.{entries_of}
use Rattle.aim_turnstile.specs.Turned.{total, is}
use Rattle.aim_turnstile.proofs.Totals.{one_le}

module _ {A : Type 0} where
  total_zero : (f g : A → ℕ) (l : List A) → total f l ≡ 0 → ((x : A) → f x ≡ 0 → g x ≡ 0) → total g l ≡ 0
  total_zero f g [] z h = refl
  total_zero f g (x ∷ xs) z h = omega (arith, h x (omega arith), total_zero f g xs (omega arith) h)

  -- where one has all of f, it has all of what f bounds
  pub only_one : (f g : A → ℕ) (l : List A) (i : ℕ) (v : A) → get_elem? l i ≡ some v → total f l ≡ f v → ((x : A) → f x ≡ 0 → g x ≡ 0) → total g l ≡ g v
  only_one f g [] i v e t h = absurd (some-ne-none v (sym e))
  only_one f g (x ∷ xs) zero v e t h = let s = ap f (some-injective _ _ e) in let r = ap g (some-injective _ _ e) in omega (arith, total_zero f g xs (omega arith) h)
  only_one f g (x ∷ xs) (suc i) v e t h = let b = one_le f xs i v e in omega (arith, h x (omega arith), only_one f g xs i v e (omega arith) h)

  total_plus : (f g : A → ℕ) (l : List A) → total (λ x. f x + g x) l ≡ total f l + total g l
  total_plus f g [] = refl
  total_plus f g (x ∷ xs) = omega (arith, total_plus f g xs)

  total_same : (f g : A → ℕ) (l : List A) → ((x : A) → f x ≡ g x) → total f l ≡ total g l
  total_same f g [] h = refl
  total_same f g (x ∷ xs) h = omega (arith, h x, total_same f g xs h)

  none_of : (l : List A) → total (λ _. 0) l ≡ 0
  none_of [] = refl
  none_of (x ∷ xs) = omega (arith, none_of xs)

pub total_map : {A B : Type 0} (f : B → ℕ) (m : A → B) (l : List A) → total f (map m l) ≡ total (λ x. f (m x)) l
total_map f m [] = refl
total_map f m (x ∷ xs) = omega (arith, total_map f m xs)

module _ {E : Type 0} (caller_of : E → ℕ) where
  is_turned : (n m : ℕ) → is n m ≡ is m n
  is_turned n m = grind (arith, nat_tests)

  one_more : (e : E) (es : List E) (n : ℕ) → length (entries_of caller_of n (e ∷ es)) ≡ is (caller_of e) n + length (entries_of caller_of n es)
  one_more e es n = at (caller_of e == n) (entries_of caller_of n es) ∙ ap (λ k. k + length (entries_of caller_of n es)) (is_turned n (caller_of e))
    where
      at : (b : Bool) (l : List E) → length (if b then e ∷ l else l) ≡ (if b then 1 else 0) + length l
      at true l = omega arith
      at false l = omega arith

  tail_none : (e : E) (es : List E) (n : ℕ) → entries_of caller_of n (e ∷ es) ≡ [] → entries_of caller_of n es ≡ []
  tail_none e es n h = at (caller_of e == n) (entries_of caller_of n es) h
    where
      at : (b : Bool) (l : List E) → (if b then e ∷ l else l) ≡ [] → l ≡ []
      at true l q = absurd cc
      at false l q = q

  head_some : (e : E) (es : List E) → entries_of caller_of (caller_of e) (e ∷ es) ≡ [] → ⊥
  head_some e es h = at (caller_of e == caller_of e) (entries_of caller_of (caller_of e) es) (grind (arith, nat_tests)) h
    where
      at : (b : Bool) (l : List E) → b ≡ true → (if b then e ∷ l else l) ≡ [] → ⊥
      at true l s q = cc
      at false l s q = cc

  -- the entries of the numbers are all entries
  pub tally : (numbers : List ℕ) → ((n : ℕ) → total (is n) numbers ≤ 1) → (log : List E) → ((n : ℕ) → total (is n) numbers ≡ 0 → entries_of caller_of n log ≡ []) → total (λ n. length (entries_of caller_of n log)) numbers ≡ length log
  tally numbers distinct [] h = none_of numbers
  tally numbers distinct (e ∷ es) h =
      let parts = total_same (λ n. length (entries_of caller_of n (e ∷ es))) (λ n. is (caller_of e) n + length (entries_of caller_of n es)) numbers (one_more e es) in
      let once : total (is (caller_of e)) numbers ≡ 1 = one (total (is (caller_of e)) numbers) (distinct (caller_of e)) (λ z. head_some e es (h (caller_of e) z)) in
      omega (arith, parts, total_plus (is (caller_of e)) (λ n. length (entries_of caller_of n es)) numbers, once, tally numbers distinct es (λ n z. tail_none e es n (h n z)))
    where
      one : (k : ℕ) → k ≤ 1 → (k ≡ 0 → ⊥) → k ≡ 1
      one k a b = omega arith
