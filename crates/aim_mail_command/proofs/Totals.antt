-- Sums over the first numbers, and how many elements of a list have each key.
use Rattle.std.proofs.Common.{◌≡◌, ◌≢◌, ℕ, zero, suc, ◌+◌, ◌<◌, ◌≤◌, Bool, true, false, if◌then◌else◌, List, [], ◌∷◌, length, filter, refl, sym, ap, ◌∙◌, arith}
use Rattle.std.specs.Prelude.{◌==◌, All}
use Rattle.std.proofs.lemmas.Bool.{eq-eqb, ne_eqb}
use Rattle.std.proofs.lemmas.List.Elements.{All-cons, All-head, All-tail}
use mathlib.Core.Logic.{dite}
use native.Mathlib.Decide.{ℕ_discrete}

-- the sum of f over the numbers below n
abbrev pub sum_below : (ℕ → ℕ) → ℕ → ℕ
sum_below f zero = 0
sum_below f (suc n) = sum_below f n + f n

pub sum_same : (f g : ℕ → ℕ) (n : ℕ) → ((v : ℕ) → v < n → f v ≡ g v) → sum_below f n ≡ sum_below g n
sum_same f g zero same = refl
sum_same f g (suc n) same = let a : f n ≡ g n = same n (omega arith) in omega (arith, a, sum_same f g n (λ v lt. same v (omega (arith, lt))))

sum_less : (f g : ℕ → ℕ) (n : ℕ) → ((v : ℕ) → v < n → f v ≤ g v) → sum_below f n ≤ sum_below g n
sum_less f g zero less = omega arith
sum_less f g (suc n) less = let a : f n ≤ g n = less n (omega arith) in omega (arith, a, sum_less f g n (λ v lt. less v (omega (arith, lt))))

-- where nothing is less in sum, nothing is less
pub sum_tight : (f g : ℕ → ℕ) (n : ℕ) → ((v : ℕ) → v < n → f v ≤ g v) → sum_below g n ≤ sum_below f n → (v : ℕ) → v < n → f v ≡ g v
sum_tight f g zero less all v lt = absurd (omega (arith, lt))
sum_tight f g (suc n) less all v lt =
    let a : f n ≤ g n = less n (omega arith) in
    let b = sum_less f g n (λ v lt. less v (omega (arith, lt))) in
    let top : f n ≡ g n = omega (arith, a, b, all) in
    dite (ℕ_discrete v n)
    (λ same. ap f same ∙ top ∙ ap g (sym same))
    (λ other. sum_tight f g n (λ v lt. less v (omega (arith, lt))) (omega (arith, a, b, all)) v (omega (arith, lt, other)))

sum_none : (f : ℕ → ℕ) (n : ℕ) → ((v : ℕ) → f v ≡ 0) → sum_below f n ≡ 0
sum_none f zero none = refl
sum_none f (suc n) none = omega (arith, none n, sum_none f n none)

-- one number has one more
sum_one : (f g : ℕ → ℕ) (k n : ℕ) → k < n → g k ≡ f k + 1 → ((v : ℕ) → v ≢ k → g v ≡ f v) → sum_below g n ≡ sum_below f n + 1
sum_one f g k zero lt more same = absurd (omega (arith, lt))
sum_one f g k (suc n) lt more same =
    dite (ℕ_discrete n k)
    (λ is. let top : g n ≡ f n + 1 = ap g is ∙ more ∙ ap (λ m. f m + 1) (sym is) in omega (arith, top, sum_same g f n (λ v less. same v (λ e. omega (arith, e, is, less)))))
    (λ other. omega (arith, same n other, sum_one f g k n (omega (arith, lt, other)) more same))

module _ {A : Type 0} (key : A → ℕ) where
  -- how many elements have the key
  abbrev pub count_of : List A → ℕ → ℕ
  count_of xs v = length (filter (λ x. key x == v) xs)

  -- a list has as many elements as there are of all keys
  pub count_all : (xs : List A) (n : ℕ) → All (λ x. key x < n) xs → sum_below (count_of xs) n ≡ length xs
  count_all [] n all = sum_none (count_of []) n (λ v. refl)
  count_all (x ∷ xs) n all =
      sum_one (count_of xs) (count_of (x ∷ xs)) (key x) n (All-head (λ y. key y < n) x xs all)
      (ap (λ b. length (if b then x ∷ filter (λ y. key y == key x) xs else filter (λ y. key y == key x) xs)) (eq-eqb (key x) (key x) refl) ∙ more (filter (λ y. key y == key x) xs))
      (λ v other. ap (λ b. length (if b then x ∷ filter (λ y. key y == v) xs else filter (λ y. key y == v) xs)) (ne_eqb (key x) v (λ e. other (sym e))))
      ∙ ap (λ m. m + 1) (count_all xs n (All-tail (λ y. key y < n) x xs all)) ∙ sym (more xs)
    where
      more : (ys : List A) → length (x ∷ ys) ≡ length ys + 1
      more ys = omega arith

  -- where a test keeps nothing, it holds of nothing
  pub none_kept : (p : A → Bool) (xs : List A) → filter p xs ≡ [] → All (λ x. p x ≡ false) xs
  none_kept p [] none = λ k d lt. absurd (omega (arith, lt))
  none_kept p (x ∷ xs) none = at (p x) refl (none_kept p xs) none
    where
      at : (b : Bool) → p x ≡ b → (filter p xs ≡ [] → All (λ y. p y ≡ false) xs) → (if b then x ∷ filter p xs else filter p xs) ≡ [] → All (λ y. p y ≡ false) (x ∷ xs)
      at true is rest none = absurd (cc none)
      at false is rest none = All-cons (λ y. p y ≡ false) x xs is (rest none)
