-- The numbers of all callers.
use Rattle.std.proofs.Common.{◌≡◌, ◌≢◌, ℕ, ◌+◌, ◌<◌, ◌≤◌, List, [], ◌∷◌, ◌++◌, length, get_or, AllPairs, arith, refl, sym, ap, ◌∙◌, length-append}
use Rattle.std.specs.List.{range_with_len}
use Rattle.std.proofs.Math.Decide.{dec_lt}
use Rattle.std.proofs.Math.Seq.{get_or-append_seam}
use Rattle.std.proofs.lemmas.List.{get_or_append_left}
use Rattle.std.proofs.lemmas.List.FromFn.{length-range_with_len, get_or-range_with_len}
use Rattle.aim_messages.specs.declared.entries.TheConstants.{MOST_VEHICLES, OPERATOR}
use Rattle.aim_manager.specs.Seen.{callers}

-- there is one more than the vehicles
pub callers_count : (n : ℕ) → length (callers n) ≡ n + 1
callers_count n = omega (arith, length-append (range_with_len 0 n) (OPERATOR ∷ []), length-range_with_len 0 n)

pub callers_all : (numbers : List ℕ) (n m : ℕ) → numbers ≡ callers n → m ≡ n → m + 1 ≡ length numbers
callers_all numbers n m is count = omega (arith, callers_count n, ap length is)

-- a vehicle stands at the place of its number
vehicle_at : (n k d : ℕ) → k < n → get_or (callers n) k d ≡ k
vehicle_at n k d l =
    let long : k < length (range_with_len 0 n) = omega (arith, length-range_with_len 0 n) in
    get_or_append_left (range_with_len 0 n) (OPERATOR ∷ []) d k long ∙ (get_or-range_with_len 0 n k d l ∙ omega arith)

-- the operator stands behind the vehicles
operator_at : (n k d : ℕ) → k ≡ n → get_or (callers n) k d ≡ OPERATOR
operator_at n k d at =
    let long : length (range_with_len 0 n) ≡ k = length-range_with_len 0 n ∙ sym at in
    ap (λ m. get_or (callers n) m d) (sym long) ∙ get_or-append_seam (range_with_len 0 n) OPERATOR [] d

-- no number stands twice
pub callers_distinct : (n : ℕ) → n ≤ MOST_VEHICLES → AllPairs (λ a b. a ≢ b) (callers n)
callers_distinct n most i j d before l same =
    let count = callers_count n in
    let first : i < n = omega arith in
    elim (dec_lt j n) [
      | yes b ↦ absurd (omega (arith, vehicle_at n i d first, vehicle_at n j d b))
      | no b ↦ (let last : j ≡ n = omega arith in absurd (omega (arith, vehicle_at n i d first, operator_at n j d last)))
    ]

-- what comes last, and what stands before it
pub last_is : {A : Type 0} (xs ys : List A) (x y : A) → xs ++ x ∷ [] ≡ ys ++ y ∷ [] → (xs ≡ ys) × (x ≡ y)
last_is [] [] x y e = (refl, cc e)
last_is [] (b ∷ ys) x y e = absurd (omega (arith, ap length e, length-append ys (y ∷ [])))
last_is (a ∷ xs) [] x y e = absurd (omega (arith, ap length e, length-append xs (x ∷ [])))
last_is (a ∷ xs) (b ∷ ys) x y e =
    let h : a ≡ b = cc e in
    let t : xs ++ x ∷ [] ≡ ys ++ y ∷ [] = cc e in
    let r = last_is xs ys x y t in
    ((λ i. h i ∷ r.0 i), r.1)

-- some pass stands for a list of all callers
pub callers_some : {A : Type 0} (numbers : List ℕ) (n : ℕ) (xs : List A) → numbers ≡ callers n → length xs ≡ length numbers → 0 < length xs
callers_some numbers n xs is same = omega (arith, callers_count n, ap length is, same)
