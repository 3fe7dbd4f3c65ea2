-- Lists with one more element at the end, and tests of the numbers below a bound.
use Rattle.std.proofs.Common.{◌≡◌, ℕ, zero, suc, ◌+◌, ◌<◌, ◌≤◌, Bool, true, false, ◌||◌, ◌&&◌, not, List, [], ◌∷◌, ◌++◌, Option, Some, None, arith, refl, sym, subst, ◌∙◌, ap, ◌⊎◌, inl, inr, filter, max, min}
use Rattle.std.specs.Prelude.{find, reverse, ◌==◌, if◌then◌else◌}
use Rattle.std.specs.List.{list_any, list_all, range_with_len}
use Rattle.std.proofs.Math.Decide.{dec_lt}
use Rattle.std.proofs.lemmas.Bool.{eqb-true, eq-eqb}
use Rattle.std.specs.Option.{option_or}
use Rattle.std.proofs.lemmas.List.{append-nil}
use Rattle.std.proofs.Math.Seq.{append_snoc}
use Rattle.aim_geometry.specs.Bounded.{last, greatest, max_with, least, least_below, min_with, some_below}
use Rattle.aim_rules.specs.Cells.{IsIn}
use Rattle.aim_rules.proofs.HistoryLemmas.{last-append}

-- from the empty list by one more element at the end
pub from_front : {X : Type 0} (P : List X → Type 0) → P [] → ((xs : List X) (x : X) → P xs → P (xs ++ x ∷ [])) → (xs : List X) → P xs
from_front {X = X} P none more xs = go [] xs none
  where
    go : (before xs : List X) → P before → P (before ++ xs)
    go before [] p = subst P (sym (append-nil before)) p
    go before (x ∷ xs) p = subst P (append_snoc before x xs) (go (before ++ x ∷ []) xs (more before x p))

pub decided : (b : Bool) → (b ≡ true) ⊎ (b ≡ false)
decided true = inl refl
decided false = inr refl

pub last-snoc : {X : Type 0} (p : X → Bool) (xs : List X) (x : X) → last p (xs ++ x ∷ []) ≡ (if p x then Some x else last p xs)
last-snoc {X = X} p xs x = last-append p xs (x ∷ []) ∙ go (p x) (last p xs)
  where
    go : (b : Bool) (o : Option X) → option_or (if b then Some x else None) o ≡ (if b then Some x else o)
    go true o = refl
    go false o = refl

pub greatest-snoc : (xs : List ℕ) (n : ℕ) → greatest (xs ++ n ∷ []) ≡ Some (max_with n (greatest xs))
greatest-snoc [] n = refl
greatest-snoc (x ∷ xs) n = rw (greatest-snoc xs n) (ap Some (go x n (greatest xs)))
  where
    go : (a b : ℕ) (o : Option ℕ) → max a (max_with b o) ≡ max b (max_with a o)
    go a b None = omega arith
    go a b (Some c) = omega arith

pub least-snoc : (xs : List ℕ) (n : ℕ) → least (xs ++ n ∷ []) ≡ Some (min_with n (least xs))
least-snoc [] n = refl
least-snoc (x ∷ xs) n = rw (least-snoc xs n) (ap Some (go x n (least xs)))
  where
    go : (a b : ℕ) (o : Option ℕ) → min a (min_with b o) ≡ min b (min_with a o)
    go a b None = omega arith
    go a b (Some c) = omega arith

pub list_all-snoc : {X : Type 0} (p : X → Bool) (xs : List X) (x : X) → list_all p (xs ++ x ∷ []) ≡ (list_all p xs && p x)
list_all-snoc p [] x = one (p x)
  where
    one : (b : Bool) → (b && true) ≡ b
    one true = refl
    one false = refl
list_all-snoc p (y ∷ xs) x = rw (list_all-snoc p xs x) (assoc (p y) (list_all p xs) (p x))
  where
    assoc : (a b c : Bool) → (a && (b && c)) ≡ ((a && b) && c)
    assoc true b c = refl
    assoc false b c = refl

-- an element that is found passes
pub find-test : {X : Type 0} (p : X → Bool) (xs : List X) (x : X) → find p xs ≡ Some x → p x ≡ true
find-test p [] x h = absurd (cc)
find-test {X = X} p (y ∷ xs) x h = go (p y) refl (λ g. find-test p xs x g) h
  where
    go : (b : Bool) → p y ≡ b → (find p xs ≡ Some x → p x ≡ true) → (if b then Some y else find p xs) ≡ Some x → p x ≡ true
    go true e later h = let same : y ≡ x = cc in rw same at e
    go false e later h = later h

pub list_any-filter : {X : Type 0} (q p : X → Bool) (xs : List X) → list_any q (filter p xs) ≡ list_any (λ x. p x && q x) xs
list_any-filter q p [] = refl
list_any-filter {X = X} q p (x ∷ xs) = go (p x) (list_any-filter q p xs)
  where
    go : (b : Bool) → list_any q (filter p xs) ≡ list_any (λ x. p x && q x) xs → list_any q (if b then x ∷ filter p xs else filter p xs) ≡ ((b && q x) || list_any (λ x. p x && q x) xs)
    go true e = rw e refl
    go false e = e

pub some_below-same : (n : ℕ) (f g : ℕ → Bool) → ((w : ℕ) → w < n → f w ≡ g w) → some_below n f ≡ some_below n g
some_below-same zero f g same = refl
some_below-same (suc n) f g same = rw (some_below-same n f g (λ w l. same w (omega arith)), same n (omega arith)) refl

or_assoc : (a b c : Bool) → ((a || b) || c) ≡ (a || (b || c))
or_assoc true b c = refl
or_assoc false b c = refl

or_comm : (a b : Bool) → (a || b) ≡ (b || a)
or_comm true true = refl
or_comm true false = refl
or_comm false true = refl
or_comm false false = refl

pub differ : (u w : ℕ) → (u ≡ w → ⊥) → (u == w) ≡ false
differ u w n = go (u == w) refl
  where
    go : (b : Bool) → (u == w) ≡ b → (u == w) ≡ false
    go true e = absurd (n (eqb-true u w e))
    go false e = e

-- one number apart from the others
pub some_below-split : (n u : ℕ) (f : ℕ → Bool) → u < n → some_below n f ≡ (f u || some_below n (λ w. not (u == w) && f w))
some_below-split zero u f l = absurd (omega arith)
some_below-split (suc n) u f l = elim (dec_lt u n) [
  | yes b ↦ (let other : (u == n) ≡ false = differ u n (λ e. omega arith) in
      rw (other) (ap (λ b. b || f n) (some_below-split n u f b) ∙ or_assoc (f u) (some_below n (λ w. not (u == w) && f w)) (f n)))
  | no b ↦ (let same : u ≡ n = omega arith in
      let here : (n == n) ≡ true = eq-eqb n n refl in
      rw (same, here) (or_comm (some_below n f) (f n) ∙ ap (λ b. f n || b) (some_below-same n f (λ w. not (n == w) && f w) (λ w l. rw (differ n w (λ e. omega arith)) refl) ∙ or_comm false (some_below n (λ w. not (n == w) && f w)))))
]

-- tests that agree on a range
pub list_any-range_same : (a n : ℕ) (p q : ℕ → Bool) → ((s : ℕ) → a ≤ s → s < a + n → p s ≡ q s) → list_any p (range_with_len a n) ≡ list_any q (range_with_len a n)
list_any-range_same a zero p q same = refl
list_any-range_same a (suc n) p q same = rw (same a (omega arith) (omega arith), list_any-range_same (a + 1) n p q (λ s b l. same s (omega arith) (omega arith))) refl

pub eq_comm : (u w : ℕ) → (u == w) ≡ (w == u)
eq_comm u w = go (w == u) refl
  where
    go : (b : Bool) → (w == u) ≡ b → (u == w) ≡ (w == u)
    go true e = eq-eqb u w (sym (eqb-true w u e)) ∙ sym e
    go false e = differ u w (λ s. let t : (w == u) ≡ true = eq-eqb w u (sym s) in cc) ∙ sym e

pub some_below-apart : (n u : ℕ) (f : ℕ → Bool) → u < n → some_below n f ≡ (f u || some_below n (λ w. not (w == u) && f w))
some_below-apart n u f l = some_below-split n u f l ∙ ap (λ b. f u || b) (some_below-same n (λ w. not (u == w) && f w) (λ w. not (w == u) && f w) (λ w m. ap (λ b. not b && f w) (eq_comm u w)))

-- elements

pub IsIn-left : {X : Type 0} (xs ys : List X) (y : X) → IsIn y xs → IsIn y (xs ++ ys)
IsIn-left [] ys y m = absurd m
IsIn-left (x ∷ xs) ys y (inl e) = inl e
IsIn-left (x ∷ xs) ys y (inr m) = inr (IsIn-left xs ys y m)

pub IsIn-end : {X : Type 0} (xs : List X) (x : X) → IsIn x (xs ++ x ∷ [])
IsIn-end [] x = inl refl
IsIn-end (y ∷ xs) x = inr (IsIn-end xs x)

pub IsIn-snoc : {X : Type 0} (xs : List X) (x y : X) → IsIn y (xs ++ x ∷ []) → IsIn y xs ⊎ (y ≡ x)
IsIn-snoc [] x y (inl e) = inr e
IsIn-snoc [] x y (inr m) = absurd m
IsIn-snoc (z ∷ xs) x y (inl e) = inl (inl e)
IsIn-snoc (z ∷ xs) x y (inr m) = elim (IsIn-snoc xs x y m) [
  | inl a ↦ inl (inr a)
  | inr e ↦ inr e
]

pub IsIn-test : {X : Type 0} (p : X → Bool) (xs : List X) (x : X) → IsIn x xs → p x ≡ true → list_any p xs ≡ true
IsIn-test p [] x m t = absurd m
IsIn-test p (y ∷ xs) x (inl e) t = let h : p y ≡ true = rw e at t in rw h refl
IsIn-test p (y ∷ xs) x (inr m) t = rw (IsIn-test p xs x m t) (or_comm (p y) true)

pub some_passes : {X : Type 0} (q : X → Bool) (xs : List X) → list_any q xs ≡ true → (c : X) × IsIn c xs × (q c ≡ true)
some_passes {X = X} q [] t = absurd (cc)
some_passes {X = X} q (x ∷ xs) t = go (q x) refl t (some_passes q xs)
  where
    go : (b : Bool) → q x ≡ b → (b || list_any q xs) ≡ true → (list_any q xs ≡ true → (c : X) × IsIn c xs × (q c ≡ true)) → (c : X) × IsIn c (x ∷ xs) × (q c ≡ true)
    go true e f later = (x, inl refl, e)
    go false e f later = let s = later f in (s.0, inr s.1, s.2)

pub IsIn-passed : {X : Type 0} (p : X → Bool) (xs : List X) (x : X) → IsIn x xs → p x ≡ true → IsIn x (filter p xs)
IsIn-passed p [] x m t = absurd m
IsIn-passed p (y ∷ xs) x (inl e) t = let h : p y ≡ true = rw e at t in rw h (inl e)
IsIn-passed {X = X} p (y ∷ xs) x (inr m) t = go (p y) (IsIn-passed p xs x m t)
  where
    go : (b : Bool) → IsIn x (filter p xs) → IsIn x (if b then y ∷ filter p xs else filter p xs)
    go true n = inr n
    go false n = n

pub IsIn-filter : {X : Type 0} (p : X → Bool) (xs : List X) (x : X) → IsIn x (filter p xs) → IsIn x xs × (p x ≡ true)
IsIn-filter p [] x m = absurd m
IsIn-filter {X = X} p (y ∷ xs) x m = go (p y) refl (λ n. IsIn-filter p xs x n) m
  where
    go : (b : Bool) → p y ≡ b → (IsIn x (filter p xs) → IsIn x xs × (p x ≡ true)) → IsIn x (if b then y ∷ filter p xs else filter p xs) → IsIn x (y ∷ xs) × (p x ≡ true)
    go true e later (inl s) = (inl s, rw (← s) at e)
    go true e later (inr n) = let r = later n in (inr r.0, r.1)
    go false e later n = let r = later n in (inr r.0, r.1)

pub find-in : {X : Type 0} (p : X → Bool) (xs : List X) (x : X) → find p xs ≡ Some x → IsIn x xs
find-in p [] x h = absurd (cc)
find-in {X = X} p (y ∷ xs) x h = go (p y) (λ n. find-in p xs x n) h
  where
    go : (b : Bool) → (find p xs ≡ Some x → IsIn x xs) → (if b then Some y else find p xs) ≡ Some x → IsIn x (y ∷ xs)
    go true later h = let s : x ≡ y = cc in inl s
    go false later h = inr (later h)

pub last-in : {X : Type 0} (p : X → Bool) (xs : List X) (x : X) → last p xs ≡ Some x → IsIn x xs
last-in {X = X} p xs x h = from_front (λ xs. last p xs ≡ Some x → IsIn x xs) (λ n. absurd (cc)) (λ ys y later n. go ys y later (p y) (sym (last-snoc p ys y) ∙ n)) xs h
  where
    go : (ys : List X) (y : X) → (last p ys ≡ Some x → IsIn x ys) → (b : Bool) → (if b then Some y else last p ys) ≡ Some x → IsIn x (ys ++ y ∷ [])
    go ys y later true n = let s : y ≡ x = cc in rw s (IsIn-end ys x)
    go ys y later false n = IsIn-left ys (y ∷ []) x (later n)

pub last-test : {X : Type 0} (p : X → Bool) (xs : List X) (x : X) → last p xs ≡ Some x → p x ≡ true
last-test p xs x h = find-test p (reverse xs) x h

-- the least number that passes is below the bound, and passes
pub least_below_is : (n : ℕ) (test : ℕ → Bool) (w : ℕ) → least_below n test ≡ Some w → (w < n) × (test w ≡ true)
least_below_is zero test w h = absurd (cc)
least_below_is (suc n) test w h = go (least_below n test) refl (test n) refl (λ g. least_below_is n test w g) h
  where
    go : (o : Option ℕ) → least_below n test ≡ o → (b : Bool) → test n ≡ b → (least_below n test ≡ Some w → (w < n) × (test w ≡ true)) → option_or o (if b then Some n else None) ≡ Some w → (w < suc n) × (test w ≡ true)
    go (Some x) e b t earlier h = let r = earlier (e ∙ h) in let l = r.0 in (omega arith, r.1)
    go None e true t earlier h = let s : n ≡ w = cc in (omega arith, rw s at t)
    go None e false t earlier h = absurd (cc)
