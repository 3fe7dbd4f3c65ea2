-- Totals over lists, and what holds of each element.
use Rattle.std.proofs.Common.{◌≡◌, ◌≢◌, ℕ, zero, suc, ◌+◌, ◌≤◌, List, [], ◌∷◌, ◌++◌, length, set, refl, sym, ap, ◌∙◌, arith}
use Rattle.std.specs.Prelude.{Some, None, Option, All, sum_by}
use Rattle.std.proofs.lemmas.List.Elements.{All-nil, All-cons}
use Rattle.std.proofs.lemmas.List.Sums.{sum_by-cons}
use Rattle.std.proofs.lemmas.Bool.Decides.{nat_tests}
use mathlib.Core.Option.{some, some-ne-none, some-injective}
use lib.ListN.{get_elem?}
use Rattle.aim_turnstile.specs.Turned.{Every, total, waits, is}

module _ {A : Type 0} where
  pub total_set : (f : A → ℕ) (l : List A) (i : ℕ) (v w : A) → get_elem? l i ≡ some v → total f (set l i w) + f v ≡ total f l + f w
  total_set f [] i v w e = absurd (some-ne-none v (sym e))
  total_set f (x ∷ xs) zero v w e = let s = ap f (some-injective _ _ e) in omega arith
  total_set f (x ∷ xs) (suc i) v w e = omega (arith, total_set f xs i v w e)

  pub one_le : (f : A → ℕ) (l : List A) (i : ℕ) (v : A) → get_elem? l i ≡ some v → f v ≤ total f l
  one_le f [] i v e = absurd (some-ne-none v (sym e))
  one_le f (x ∷ xs) zero v e = let s = ap f (some-injective _ _ e) in omega arith
  one_le f (x ∷ xs) (suc i) v e = omega (arith, one_le f xs i v e)

  pub two_le : (f : A → ℕ) (l : List A) (i j : ℕ) (v w : A) → get_elem? l i ≡ some v → get_elem? l j ≡ some w → i ≢ j → f v + f w ≤ total f l
  two_le f [] i j v w e d n = absurd (some-ne-none v (sym e))
  two_le f (x ∷ xs) zero zero v w e d n = absurd (n refl)
  two_le f (x ∷ xs) zero (suc j) v w e d n = let s = ap f (some-injective _ _ e) in omega (arith, one_le f xs j w d)
  two_le f (x ∷ xs) (suc i) zero v w e d n = let s = ap f (some-injective _ _ d) in omega (arith, one_le f xs i v e)
  two_le f (x ∷ xs) (suc i) (suc j) v w e d n = omega (arith, two_le f xs i j v w e d (λ s. n (ap suc s)))

  pub total_le : (f g : A → ℕ) (l : List A) → ((j : ℕ) (v : A) → get_elem? l j ≡ some v → f v ≤ g v) → total f l ≤ total g l
  total_le f g [] h = omega arith
  total_le f g (x ∷ xs) h = omega (arith, h 0 x refl, total_le f g xs (λ j v e. h (suc j) v e))

  pub total-append : (f : A → ℕ) (xs ys : List A) → total f (xs ++ ys) ≡ total f xs + total f ys
  total-append f [] ys = omega arith
  total-append f (x ∷ xs) ys = omega (arith, total-append f xs ys)

  pub total_ones : (l : List A) → total (λ _. 1) l ≡ length l
  total_ones [] = refl
  total_ones (x ∷ xs) = omega (arith, total_ones xs)

  pub sum_by-total : (f : A → ℕ) (l : List A) → sum_by f l ≡ total f l
  sum_by-total f [] = refl
  sum_by-total f (x ∷ xs) = sum_by-cons f x xs ∙ ap (λ k. f x + k) (sum_by-total f xs)

  pub Every_map : (P Q : A → Type 0) → ((x : A) → P x → Q x) → (l : List A) → Every P l → Every Q l
  Every_map P Q h [] all = tt
  Every_map P Q h (x ∷ xs) all = (h x all.0, Every_map P Q h xs all.1)

  pub Every-append : (P : A → Type 0) (xs ys : List A) → Every P xs → Every P ys → Every P (xs ++ ys)
  Every-append P [] ys a b = b
  Every-append P (x ∷ xs) ys a b = (a.0, Every-append P xs ys a.1 b)

  pub Every_front : (P : A → Type 0) (xs ys : List A) → Every P (xs ++ ys) → Every P xs
  Every_front P [] ys all = tt
  Every_front P (x ∷ xs) ys all = (all.0, Every_front P xs ys all.1)

  pub Every_back : (P : A → Type 0) (xs ys : List A) → Every P (xs ++ ys) → Every P ys
  Every_back P [] ys all = all
  Every_back P (x ∷ xs) ys all = Every_back P xs ys all.1

  pub All_of : (P : A → Type 0) (xs : List A) → Every P xs → All P xs
  All_of P [] all = All-nil P
  All_of P (x ∷ xs) all = All-cons P x xs all.0 (All_of P xs all.1)

  pub set_at : (l : List A) (i : ℕ) (v w : A) → get_elem? l i ≡ some v → get_elem? (set l i w) i ≡ some w
  set_at [] i v w e = absurd (some-ne-none v (sym e))
  set_at (x ∷ xs) zero v w e = refl
  set_at (x ∷ xs) (suc i) v w e = set_at xs i v w e

pub is_self : (n m : ℕ) → m ≡ n → is n m ≡ 1
is_self n m e = grind (arith, nat_tests)

pub is_other : (n m : ℕ) → is n m ≡ 0 → m ≢ n
is_other n m e s = let o = is_self n m s in omega arith

pub is_none : (n m : ℕ) → (m ≡ n → ⊥) → is n m ≡ 0
is_none n m a = grind (arith, nat_tests)

pub waits_le : (o : Option ℕ) (c : ℕ) → ((t : ℕ) → o ≡ Some t → 1 ≤ c) → waits o ≤ c
waits_le None c h = omega arith
waits_le (Some t) c h = h t refl
