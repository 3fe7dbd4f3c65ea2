-- One entry more at the end of a history.
use Rattle.std.proofs.Common.{◌≡◌, ◌≢◌, ℕ, suc, ◌+◌, ◌≤◌, ◌==◌, Bool, true, false, List, [], ◌∷◌, ◌++◌, length, refl, ap, ◌∙◌, arith, length-append}
use Rattle.std.specs.Prelude.{if◌then◌else◌, filter, not}
use Rattle.std.proofs.lemmas.List.{append-nil}
use Rattle.std.proofs.lemmas.List.Elements.{filter-append}
use Rattle.std.proofs.lemmas.Bool.Decides.{nat_tests}
use Rattle.aim_shards.specs.declared.claims.ClaimAct.{ClaimAct}
use Rattle.aim_shards.specs.declared.claims.ClaimAct.TheVariants as act
use Rattle.aim_shards.specs.declared.claims.ClaimEntry.{ClaimEntry}
use Rattle.aim_shards.specs.Sets.{Quarters}
use Rattle.aim_shards.specs.Claims.{after_act, stood, stands, answer, touches, touching, IsLegalFrom, IsLegal, of_quadrant, entries_of}

pub stands_more : (standing es : List ClaimEntry) (e : ClaimEntry) → stands standing (es ++ e ∷ []) ≡ stood (stands standing es) e
stands_more standing [] e = refl
stands_more standing (x ∷ es) e = stands_more (stood standing x) es e

after_length : (standing : List ClaimEntry) (e : ClaimEntry) (a : ClaimAct) (b : Bool) → length (after_act standing e a b) ≤ suc (length standing)
after_length standing e (act.Claim k) true = omega (arith, length-append standing (e ∷ []))
after_length standing e (act.Free t) true = omega (arith, kept standing)
  where
    kept : (xs : List ClaimEntry) → length (filter (λ f. not (f.ticket == t)) xs) ≤ length xs
    kept [] = omega arith
    kept (x ∷ xs) = shorter (not (x.ticket == t)) (filter (λ f. not (f.ticket == t)) xs) (kept xs)
      where
        shorter : (c : Bool) (l : List ClaimEntry) → length l ≤ length xs → length (if c then x ∷ l else l) ≤ suc (length xs)
        shorter true l le = omega arith
        shorter false l le = omega arith
after_length standing e (act.Claim k) false = omega arith
after_length standing e (act.Free t) false = omega arith

stands_length : (standing es : List ClaimEntry) → length (stands standing es) ≤ length standing + length es
stands_length standing [] = omega arith
stands_length standing (e ∷ es) = omega (arith, stands_length (stood standing e) es, after_length standing e e.act e.yes)

pub stands_short : (es : List ClaimEntry) → length (stands [] es) ≤ length es
stands_short es = omega (arith, stands_length [] es)

-- the last entry, where it touches the quadrant
abbrev pub last_of : Bool → ClaimEntry → List ClaimEntry
last_of b e = if b then e ∷ [] else []

module _ (sets : List Quarters) where
  touching_more : (q : ℕ) (standing es : List ClaimEntry) (e : ClaimEntry) → touching sets q standing (es ++ e ∷ []) ≡ touching sets q standing es ++ last_of (touches sets (stands standing es) e.act e.yes q) e
  touching_more q standing [] e = refl
  touching_more q standing (x ∷ es) e = at (touches sets standing x.act x.yes q) (touching_more q (stood standing x) es e)
    where
      at : (b : Bool) → touching sets q (stood standing x) (es ++ e ∷ []) ≡ touching sets q (stood standing x) es ++ last_of (touches sets (stands (stood standing x) es) e.act e.yes q) e → (if b then x ∷ touching sets q (stood standing x) (es ++ e ∷ []) else touching sets q (stood standing x) (es ++ e ∷ [])) ≡ (if b then x ∷ touching sets q (stood standing x) es else touching sets q (stood standing x) es) ++ last_of (touches sets (stands (stood standing x) es) e.act e.yes q) e
      at true more = ap (λ l. x ∷ l) more
      at false more = more

  -- an entry that touches the quadrant, and one that does not
  pub quadrant_more : (q : ℕ) (log : List ClaimEntry) (e : ClaimEntry) → touches sets (stands [] log) e.act e.yes q ≡ true → of_quadrant sets q (log ++ e ∷ []) ≡ of_quadrant sets q log ++ e ∷ []
  quadrant_more q log e is = touching_more q [] log e ∙ ap (λ b. of_quadrant sets q log ++ last_of b e) is

  pub quadrant_same : (q : ℕ) (log : List ClaimEntry) (e : ClaimEntry) → touches sets (stands [] log) e.act e.yes q ≡ false → of_quadrant sets q (log ++ e ∷ []) ≡ of_quadrant sets q log
  quadrant_same q log e is = touching_more q [] log e ∙ (ap (λ b. of_quadrant sets q log ++ last_of b e) is ∙ append-nil (of_quadrant sets q log))

  legal_more : (standing es : List ClaimEntry) (n : ℕ) (e : ClaimEntry) → IsLegalFrom sets standing n es → e.ticket ≡ n + length es → e.yes ≡ answer sets (stands standing es) e.caller e.act → IsLegalFrom sets standing n (es ++ e ∷ [])
  legal_more standing [] n e l t y = (omega (arith, t), y, tt)
  legal_more standing (x ∷ es) n e l t y = (l.0, l.1, legal_more (stood standing x) es (suc n) e l.2 (omega (arith, t)) y)

  pub lawful_more : (log : List ClaimEntry) (e : ClaimEntry) → IsLegal sets log → e.ticket ≡ length log → e.yes ≡ answer sets (stands [] log) e.caller e.act → IsLegal sets (log ++ e ∷ [])
  lawful_more log e l t y = legal_more [] log 0 e l (omega (arith, t)) y

  touching_length : (q : ℕ) (standing es : List ClaimEntry) → length (touching sets q standing es) ≤ length es
  touching_length q standing [] = omega arith
  touching_length q standing (x ∷ es) = at (touches sets standing x.act x.yes q) (touching_length q (stood standing x) es)
    where
      at : (b : Bool) → length (touching sets q (stood standing x) es) ≤ length es → length (if b then x ∷ touching sets q (stood standing x) es else touching sets q (stood standing x) es) ≤ suc (length es)
      at true le = omega arith
      at false le = omega arith

  pub quadrant_length : (q : ℕ) (log : List ClaimEntry) → length (of_quadrant sets q log) ≤ length log
  quadrant_length q log = touching_length q [] log

module _ (n : ℕ) where
  pub entries_of_own : (log : List ClaimEntry) (e : ClaimEntry) → e.caller ≡ n → entries_of n (log ++ e ∷ []) ≡ entries_of n log ++ e ∷ []
  entries_of_own log e is = filter-append (λ x. x.caller == n) log (e ∷ []) ∙ ap (λ l. entries_of n log ++ l) (last (e.caller == n) (grind (arith, nat_tests)))
    where
      last : (b : Bool) → b ≡ true → (if b then e ∷ [] else []) ≡ e ∷ []
      last true s = refl
      last false s = absurd (cc)

  pub entries_of_other : (log : List ClaimEntry) (e : ClaimEntry) → e.caller ≢ n → entries_of n (log ++ e ∷ []) ≡ entries_of n log
  entries_of_other log e is = filter-append (λ x. x.caller == n) log (e ∷ []) ∙ (ap (λ l. entries_of n log ++ l) (last (e.caller == n) (grind (arith, nat_tests))) ∙ append-nil (entries_of n log))
    where
      last : (b : Bool) → b ≡ false → (if b then e ∷ [] else []) ≡ []
      last false s = refl
      last true s = absurd (cc)
