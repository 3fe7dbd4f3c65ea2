-- Counts of numbers below a bound.
use Rattle.std.proofs.Common.{◌≡◌, ℕ, zero, suc, ◌+◌, ◌<◌, ◌≤◌, Bool, true, false, ◌||◌, arith, refl, add-one}
use Rattle.std.specs.Prelude.{if◌then◌else◌}
use Rattle.std.proofs.Math.Decide.{dec_lt}
use Rattle.aim_geometry.specs.Bounded.{some_below}
use Rattle.aim_rules.specs.Motion.{sum_below}
use Rattle.aim_requests.specs.Counts.{count_below}

pub count_none : (n : ℕ) (test : ℕ → Bool) → ((k : ℕ) → k < n → test k ≡ false) → count_below n test ≡ 0
unfolding count_below
count_none zero test none = refl
count_none (suc n) test none = rw (count_none n test (λ k l. none k (omega arith)), none n (omega arith)) refl

pub count_more : (n : ℕ) (test : ℕ → Bool) → count_below (n + 1) test ≡ count_below n test + (if test n then 1 else 0)
unfolding count_below
count_more n test = rw (add-one n) refl

pub count_alike : (n : ℕ) (p q : ℕ → Bool) → ((k : ℕ) → k < n → p k ≡ q k) → count_below n p ≡ count_below n q
unfolding count_below
count_alike zero p q e = refl
count_alike (suc n) p q e = rw (count_alike n p q (λ k l. e k (omega arith)), e n (omega arith)) refl

pub count_rises : (m n : ℕ) (test : ℕ → Bool) → m ≤ n → count_below m test ≤ count_below n test
count_rises m zero test l = let e : m ≡ zero = omega arith in rw e (omega arith)
count_rises m (suc n) test l = elim (dec_lt n m) [
  | yes b ↦ (let e : m ≡ suc n = omega arith in rw e (omega arith))
  | no b ↦ (let r = count_rises m n test (omega arith) in let s = count_more n test in rw (← add-one n) (omega arith))
]

-- numbers that don't pass add nothing
pub count_rest : (m n : ℕ) (test : ℕ → Bool) → m ≤ n → ((k : ℕ) → m ≤ k → k < n → test k ≡ false) → count_below n test ≡ count_below m test
count_rest m zero test l none = let e : m ≡ zero = omega arith in rw e refl
count_rest m (suc n) test l none = elim (dec_lt n m) [
  | yes b ↦ (let e : m ≡ suc n = omega arith in rw e refl)
  | no b ↦ (let r = count_rest m n test (omega arith) (λ k a b. none k a (omega arith)) in let s = count_more n test in
      rw (← add-one n, s, none n (omega arith) (omega arith)) (omega arith))
]

pub sum_none : (n : ℕ) (f : ℕ → ℕ) → ((k : ℕ) → k < n → f k ≡ 0) → sum_below n f ≡ 0
sum_none zero f none = refl
sum_none (suc n) f none = rw (sum_none n f (λ k l. none k (omega arith)), none n (omega arith)) refl

pub sum_more : (n : ℕ) (f : ℕ → ℕ) → sum_below (n + 1) f ≡ sum_below n f + f n
sum_more n f = rw (add-one n) refl

pub sum_rises : (m n : ℕ) (f : ℕ → ℕ) → m ≤ n → sum_below m f ≤ sum_below n f
sum_rises m zero f l = let e : m ≡ zero = omega arith in rw e (omega arith)
sum_rises m (suc n) f l = elim (dec_lt n m) [
  | yes b ↦ (let e : m ≡ suc n = omega arith in rw e (omega arith))
  | no b ↦ (let r = sum_rises m n f (omega arith) in omega arith)
]

pub sum_rest : (m n : ℕ) (f : ℕ → ℕ) → m ≤ n → ((k : ℕ) → m ≤ k → k < n → f k ≡ 0) → sum_below n f ≡ sum_below m f
sum_rest m zero f l none = let e : m ≡ zero = omega arith in rw e refl
sum_rest m (suc n) f l none = elim (dec_lt n m) [
  | yes b ↦ (let e : m ≡ suc n = omega arith in rw e refl)
  | no b ↦ (let r = sum_rest m n f (omega arith) (λ k a b. none k a (omega arith)) in
      let z = none n (omega arith) (omega arith) in omega arith)
]

-- tests that agree below a bound
pub some_alike : (n : ℕ) (p q : ℕ → Bool) → ((k : ℕ) → k < n → p k ≡ q k) → some_below n p ≡ some_below n q
some_alike zero p q e = refl
some_alike (suc n) p q e = rw (some_alike n p q (λ k l. e k (omega arith)), e n (omega arith)) refl

pub some_rest : (m n : ℕ) (test : ℕ → Bool) → m ≤ n → ((k : ℕ) → m ≤ k → k < n → test k ≡ false) → some_below n test ≡ some_below m test
some_rest m zero test l none = let e : m ≡ zero = omega arith in rw e refl
some_rest m (suc n) test l none = elim (dec_lt n m) [
  | yes b ↦ (let e : m ≡ suc n = omega arith in rw e refl)
  | no b ↦ rw (none n (omega arith) (omega arith), some_rest m n test (omega arith) (λ k a b. none k a (omega arith))) (or_false (some_below m test))
]
  where
    or_false : (b : Bool) → (b || false) ≡ b
    or_false true = refl
    or_false false = refl
