-- Laws of questions about the numbers below a bound.
use Rattle.std.proofs.Common.{◌≡◌, ℕ, zero, suc, ◌<◌, ◌≤◌, Bool, true, false, ◌||◌, Some, None, arith, refl}
use Rattle.std.proofs.Math.Decide.{dec_lt}
use Rattle.aim_geometry.specs.Bounded.{some_below, least_below}

or_true : (b : Bool) → (b || true) ≡ true
or_true true = refl
or_true false = refl

-- one number settles it
pub some_below_at : (n : ℕ) (test : ℕ → Bool) (k : ℕ) → k < n → test k ≡ true → some_below n test ≡ true
some_below_at zero test k l t = absurd (omega arith)
some_below_at (suc n) test k l t = elim (dec_lt k n) [
  | yes b ↦ (rw (some_below_at n test k b t) refl)
  | no b ↦ (let e : k ≡ n = omega arith in rw (← e, t) (or_true (some_below k test)))
]

pub some_below_none : (n : ℕ) (test : ℕ → Bool) → ((k : ℕ) → k < n → test k ≡ false) → some_below n test ≡ false
some_below_none zero test none = refl
some_below_none (suc n) test none = rw (some_below_none n test (λ k l. none k (omega arith)), none n (omega arith)) refl

-- where some number passes, it can be named
pub some_below_found : (n : ℕ) (test : ℕ → Bool) → some_below n test ≡ true → (k : ℕ) × (k < n) × (test k ≡ true)
some_below_found zero test h = absurd (cc)
some_below_found (suc n) test h = go (some_below n test) (test n) refl refl h (some_below_found n test)
  where
    go : (a b : Bool) → some_below n test ≡ a → test n ≡ b → (some_below n test || test n) ≡ true → (some_below n test ≡ true → (k : ℕ) × (k < n) × (test k ≡ true)) → (k : ℕ) × (k < suc n) × (test k ≡ true)
    go true b p q h earlier = let r = earlier p in (r.0, omega arith, r.2)
    go false true p q h earlier = (n, omega arith, q)
    go false false p q h earlier = absurd (let e : (false || false) ≡ true = rw (p, q) at h in cc)

pub least_below_none : (n : ℕ) (test : ℕ → Bool) → ((k : ℕ) → k < n → test k ≡ false) → least_below n test ≡ None
least_below_none zero test none = refl
least_below_none (suc n) test none = rw (least_below_none n test (λ k l. none k (omega arith)), none n (omega arith)) refl

-- the least number below a bound
pub least_below_at : (n : ℕ) (test : ℕ → Bool) (k : ℕ) → k < n → ((j : ℕ) → j < k → test j ≡ false) → test k ≡ true → least_below n test ≡ Some k
least_below_at zero test k l none t = absurd (omega arith)
least_below_at (suc n) test k l none t = elim (dec_lt k n) [
  | yes b ↦ (rw (least_below_at n test k b none t) refl)
  | no b ↦ (let e : k ≡ n = omega arith in rw (← e, t, least_below_none k test none) refl)
]

pub some_below_false : (n : ℕ) (test : ℕ → Bool) (k : ℕ) → some_below n test ≡ false → k < n → test k ≡ false
some_below_false n test k h l = go (test k) refl
  where
    go : (b : Bool) → test k ≡ b → test k ≡ false
    go true e = absurd (let t : some_below n test ≡ true = some_below_at n test k l e in cc)
    go false e = e

-- k is the least number that passes
pub record IsLeast (test : ℕ → Bool) (k : ℕ) : Type 0 where
  pub passes : test k ≡ true
  pub first : (j : ℕ) → j < k → test j ≡ false

-- Where a number below the bound passes, the least one is found.
pub least_below_found : (n : ℕ) (test : ℕ → Bool) (m : ℕ) → m < n → test m ≡ true → (k : ℕ) × (least_below n test ≡ Some k) × (k ≤ m) × IsLeast test k
least_below_found zero test m l t = absurd (omega arith)
least_below_found (suc n) test m l t = go (some_below n test) refl (least_below_found n test)
  where
    go : (b : Bool) → some_below n test ≡ b → ((m : ℕ) → m < n → test m ≡ true → (k : ℕ) × (least_below n test ≡ Some k) × (k ≤ m) × IsLeast test k) →
        (k : ℕ) × (least_below (suc n) test ≡ Some k) × (k ≤ m) × IsLeast test k
    go true e earlier =
        let f = some_below_found n test e in
        elim (dec_lt m n) [
          | yes b ↦ (let r = earlier m b t in (r.0, rw r.1 refl, r.2, r.3))
          | no b ↦ (let r = earlier f.0 f.1 f.2 in (r.0, rw r.1 refl, omega arith, r.3))
        ]
    go false e earlier =
        let here : n ≡ m = elim (dec_lt m n) [
          | yes b ↦ absurd (let z : test m ≡ false = some_below_false n test m e b in cc)
          | no b ↦ omega arith
        ] in
        let passes : test n ≡ true = rw here t in (
          n,
          rw (least_below_none n test (λ j l. some_below_false n test j e l), passes) refl,
          omega arith,
          record { passes = passes; first = λ j l. some_below_false n test j e l },
        )
