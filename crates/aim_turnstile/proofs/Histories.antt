-- Beginnings of a history, and what a caller has of it.
use Rattle.std.proofs.Common.{◌≡◌, ◌≢◌, ℕ, ◌≤◌, ◌==◌, Bool, true, false, List, [], ◌∷◌, ◌++◌, length, refl, sym, ap, ◌∙◌, subst, arith, append_assoc, length-append}
use Rattle.std.specs.Prelude.{if◌then◌else◌, nat_lt}
use Rattle.std.proofs.lemmas.List.{append-nil}
use Rattle.std.proofs.lemmas.List.Elements.{filter-append}
use Rattle.std.proofs.lemmas.Bool.Decides.{nat_tests}
use Rattle.aim_turnstile.specs.History.{entries_of, Begins}
use Rattle.aim_turnstile.specs.Turned.{longer}

module _ {A : Type 0} where
  pub begins_self : (xs : List A) → Begins xs xs
  begins_self xs = ([], sym (append-nil xs))

  pub begins_trans : (xs ys zs : List A) → Begins xs ys → Begins ys zs → Begins xs zs
  begins_trans xs ys zs p q = (p.0 ++ q.0, q.1 ∙ ap (λ l. l ++ q.0) p.1 ∙ append_assoc xs p.0 q.0)

  pub begins_more : (xs log more : List A) → Begins xs log → Begins xs (log ++ more)
  begins_more xs log more p = begins_trans xs log (log ++ more) p (more, refl)

  -- of two beginnings of one history the shorter one is a beginning of the longer one
  pub begins_both : (xs ys log : List A) → Begins xs log → Begins ys log → length xs ≤ length ys → Begins xs ys
  begins_both [] ys log p q le = (ys, refl)
  begins_both (x ∷ xs) [] log p q le = absurd (omega arith)
  begins_both (x ∷ xs) (y ∷ ys) [] p q le = absurd (empty (x ∷ xs) p)
    where
      empty : (zs : List A) → Begins (x ∷ xs) [] → ⊥
      empty zs r = cons_nil r.1
        where
          cons_nil : {zs : List A} → [] ≡ x ∷ zs → ⊥
          cons_nil e = cc
  begins_both (x ∷ xs) (y ∷ ys) (l ∷ ls) p q le =
      let more = begins_both xs ys ls (p.0, tails _ _ _ _ p.1) (q.0, tails _ _ _ _ q.1) (omega arith) in
      (more.0, (λ i. (sym (heads _ _ _ _ q.1) ∙ heads _ _ _ _ p.1) i ∷ more.1 i))
    where
      heads : (a b : A) (as' bs : List A) → a ∷ as' ≡ b ∷ bs → a ≡ b
      heads a b as' bs e = cc

      tails : (a b : A) (as' bs : List A) → a ∷ as' ≡ b ∷ bs → as' ≡ bs
      tails a b as' bs e = cc

  length_begins : (xs ys : List A) → Begins xs ys → length xs ≤ length ys
  length_begins xs ys p = omega (arith, ap length p.1, length-append xs p.0)

  none_more : (xs rest : List A) → length (xs ++ rest) ≤ length xs → rest ≡ []
  none_more xs [] le = refl
  none_more xs (r ∷ rs) le = absurd (omega (arith, le, length-append xs (r ∷ rs)))

  -- a beginning that is no shorter is the whole
  pub begins_whole : (xs ys : List A) → Begins xs ys → length ys ≤ length xs → xs ≡ ys
  begins_whole xs ys p le = sym (p.1 ∙ ap (λ l. xs ++ l) (none_more xs p.0 (subst (λ l. length l ≤ length xs) p.1 le)) ∙ append-nil xs)

  -- the longer of two beginnings is a beginning, and is one of them
  pub longer_holds : (P : List A → Type 0) (xs ys : List A) → P xs → P ys → P (longer xs ys)
  longer_holds P xs ys p q = at (nat_lt (length xs) (length ys))
    where
      at : (b : Bool) → P (if b then ys else xs)
      at true = q
      at false = p

  longer_first : (xs ys : List A) → nat_lt (length xs) (length ys) ≡ false → longer xs ys ≡ xs
  longer_first xs ys e = ap (λ b. if b then ys else xs) e

  longer_second : (xs ys : List A) → nat_lt (length xs) (length ys) ≡ true → longer xs ys ≡ ys
  longer_second xs ys e = ap (λ b. if b then ys else xs) e

  -- where one of two beginnings is the whole, so is the longer one
  pub longer_left : (log ys : List A) → Begins ys log → longer log ys ≡ log
  longer_left log ys p = let le = length_begins ys log p in longer_first log ys (grind (arith, nat_tests))

  pub longer_right : (xs log : List A) → Begins xs log → longer xs log ≡ log
  longer_right xs log p = at (nat_lt (length xs) (length log)) refl
    where
      at : (b : Bool) → nat_lt (length xs) (length log) ≡ b → longer xs log ≡ log
      at true e = longer_second xs log e
      at false e = longer_first xs log e ∙ begins_whole xs log p (grind (arith, nat_tests))

  pub snoc_last : (xs : List A) (a b : A) → xs ++ a ∷ [] ≡ xs ++ b ∷ [] → a ≡ b
  snoc_last [] a b e = cc
  snoc_last (x ∷ xs) a b e = snoc_last xs a b (cc)

module _ {E : Type 0} (caller_of : E → ℕ) (n : ℕ) where
  pub entries_of-append : (xs ys : List E) → entries_of caller_of n (xs ++ ys) ≡ entries_of caller_of n xs ++ entries_of caller_of n ys
  entries_of-append xs ys = filter-append (λ e. caller_of e == n) xs ys

  -- one entry more of the caller, and one of another
  pub entries_of_own : (log : List E) (e : E) → caller_of e ≡ n → entries_of caller_of n (log ++ e ∷ []) ≡ entries_of caller_of n log ++ e ∷ []
  entries_of_own log e is = entries_of-append log (e ∷ []) ∙ ap (λ l. entries_of caller_of n log ++ l) (last (caller_of e == n) (grind (arith, nat_tests)))
    where
      last : (b : Bool) → b ≡ true → (if b then e ∷ [] else []) ≡ e ∷ []
      last true s = refl
      last false s = absurd (cc)

  pub entries_of_other : (log : List E) (e : E) → caller_of e ≢ n → entries_of caller_of n (log ++ e ∷ []) ≡ entries_of caller_of n log
  entries_of_other log e is = entries_of-append log (e ∷ []) ∙ (ap (λ l. entries_of caller_of n log ++ l) (last (caller_of e == n) (grind (arith, nat_tests))) ∙ append-nil (entries_of caller_of n log))
    where
      last : (b : Bool) → b ≡ false → (if b then e ∷ [] else []) ≡ []
      last false s = refl
      last true s = absurd (cc)

  -- what has all of the caller's entries of the history keeps them as it grows to a longer beginning
  pub entries_of_between : (xs ys log : List E) → Begins xs ys → Begins ys log → entries_of caller_of n xs ≡ entries_of caller_of n log → entries_of caller_of n ys ≡ entries_of caller_of n log
  entries_of_between xs ys log p q same = whole (entries_of caller_of n ys) (entries_of caller_of n log)
      (ap (entries_of caller_of n) q.1 ∙ entries_of-append ys q.0)
      (omega (arith, ap length same, ap length (ap (entries_of caller_of n) p.1 ∙ entries_of-append xs p.0), length-append (entries_of caller_of n xs) (entries_of caller_of n p.0)))
    where
      whole : (us vs : List E) → vs ≡ us ++ entries_of caller_of n q.0 → length vs ≤ length us → us ≡ vs
      whole us vs e le = begins_whole us vs (entries_of caller_of n q.0, e) le

  -- so the longer of two beginnings has them too
  pub entries_of_longer : (xs ys log : List E) → Begins xs log → Begins ys log → entries_of caller_of n xs ≡ entries_of caller_of n log → entries_of caller_of n (longer xs ys) ≡ entries_of caller_of n log
  entries_of_longer xs ys log p q same = at (nat_lt (length xs) (length ys)) refl
    where
      at : (b : Bool) → nat_lt (length xs) (length ys) ≡ b → entries_of caller_of n (longer xs ys) ≡ entries_of caller_of n log
      at true e = ap (entries_of caller_of n) (longer_second xs ys e) ∙ entries_of_between xs ys log (begins_both xs ys log p q (grind (arith, nat_tests))) q same
      at false e = ap (entries_of caller_of n) (longer_first xs ys e) ∙ same
