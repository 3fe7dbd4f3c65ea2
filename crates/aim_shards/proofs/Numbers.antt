-- The callers' numbers, and the causes of a refused opening.
use Rattle.std.proofs.Common.{◌≡◌, ◌≢◌, ℕ, zero, suc, ◌+◌, ◌<◌, ◌≤◌, Bool, true, false, ◌&&◌, List, [], ◌∷◌, ◌++◌, length, length-append, get_or, refl, sym, ap, ◌∙◌, subst, arith, Some, None, Option}
use Rattle.std.specs.Prelude.{All, AllPairs, nat_le, if◌then◌else◌}
use Rattle.std.proofs.lemmas.Bool.{and_parts}
use Rattle.std.proofs.lemmas.Bool.Decides.{nat_tests}
use Rattle.std.proofs.lemmas.List.Elements.{All-append, All-nil, All-cons}
use mathlib.Core.Logic.{dite}
use native.Mathlib.Decide.{ℕ_discrete}
use Rattle.aim_shards.specs.declared.opening.ShardFault.{ShardFault}
use Rattle.aim_shards.specs.declared.opening.ShardFault.TheVariants.{Callers, Calls, Sets}
use Rattle.aim_shards.specs.Models.{count_up}
use Rattle.aim_shards.specs.Opening.{fault_of}
use Rattle.aim_shards.proofs.Lines.{next_of_suc}

-- one number more, and all of them
pub count_more : (n : ℕ) (xs xs' : List ℕ) → xs ≡ count_up n → xs' ≡ xs ++ n ∷ [] → xs' ≡ count_up (n + 1)
count_more n xs xs' e e' = e' ∙ (ap (λ l. l ++ n ∷ []) e ∙ ap count_up (sym (next_of_suc n)))

pub count_all : (n m : ℕ) (xs : List ℕ) → n ≤ m → m ≤ n → xs ≡ count_up n → xs ≡ count_up m
count_all n m xs le ge e = (let same : n ≡ m = omega (arith, le, ge) in e ∙ ap count_up same)

-- what holds of each holds of one more
pub each_more : {A : Type 0} (P : A → Type 0) (xs xs' : List A) (x : A) → All P xs → P x → xs' ≡ xs ++ x ∷ [] → All P xs'
each_more P xs xs' x h p e = subst (All P) (sym e) (All-append P xs (x ∷ []) h (All-cons P x [] p (All-nil P)))

pub count_length : (n : ℕ) → length (count_up n) ≡ n
count_length zero = refl
count_length (suc n) = omega (arith, length-append (count_up n) (n ∷ []), count_length n)

get_front : (xs : List ℕ) (x i d : ℕ) → i < length xs → get_or (xs ++ x ∷ []) i d ≡ get_or xs i d
get_front [] x i d lt = absurd (omega arith)
get_front (y ∷ ys) x zero d lt = refl
get_front (y ∷ ys) x (suc i) d lt = get_front ys x i d (omega arith)

get_last : (xs : List ℕ) (x d : ℕ) → get_or (xs ++ x ∷ []) (length xs) d ≡ x
get_last [] x d = refl
get_last (y ∷ ys) x d = get_last ys x d

count_at : (n i d : ℕ) → i < n → get_or (count_up n) i d ≡ i
count_at zero i d lt = absurd (omega arith)
count_at (suc n) i d lt =
    dite (ℕ_discrete i n)
    (λ e. ap (λ k. get_or (count_up n ++ n ∷ []) k d) (e ∙ sym (count_length n)) ∙ (get_last (count_up n) n d ∙ sym e))
    (λ ne. get_front (count_up n) n i d (omega (arith, count_length n, ne)) ∙ count_at n i d (omega (arith, ne)))

pub count_apart : (n : ℕ) (xs : List ℕ) → xs ≡ count_up n → AllPairs (λ a b. a ≢ b) xs
count_apart n xs e i j d lt in' same =
    let many : length xs ≡ n = ap length e ∙ count_length n in
    let a : get_or xs i d ≡ i = ap (λ l. get_or l i d) e ∙ count_at n i d (omega (arith, lt, in', many)) in
    let b : get_or xs j d ≡ j = ap (λ l. get_or l j d) e ∙ count_at n j d (omega (arith, in', many)) in omega (arith, lt, a, b, same)

pub few_of : (callers calls sets : ℕ) (r : Option ShardFault) → r ≡ fault_of callers calls sets → ((f : ShardFault) → r ≡ Some f → ⊥) → (callers ≤ 64) × (calls ≤ 1024)
few_of callers calls sets r e no' = at (nat_le 1 callers && nat_le callers 64) (nat_le 1 calls && nat_le calls 1024) refl refl
  where
    at : (b c : Bool) → (nat_le 1 callers && nat_le callers 64) ≡ b → (nat_le 1 calls && nat_le calls 1024) ≡ c → (callers ≤ 64) × (calls ≤ 1024)
    at false c h k = absurd (no' Callers (e ∙ ap (λ (x : Bool). if x then (if nat_le 1 calls && nat_le calls 1024 then (if nat_le sets 1024 then None else Some Sets) else Some Calls) else Some Callers) h))
    at true false h k = absurd (no' Calls (e ∙ (λ i. if h i then (if k i then (if nat_le sets 1024 then None else Some Sets) else Some Calls) else Some Callers)))
    at true true h k = (
      (let p = (and_parts (nat_le 1 callers) (nat_le callers 64) h).1 in grind (arith, nat_tests)),
      (let p = (and_parts (nat_le 1 calls) (nat_le calls 1024) k).1 in grind (arith, nat_tests)),
    )
