-- Four quadrants that are new.
use Rattle.std.proofs.Common.{◌≡◌, ℕ, ◌+◌, ◌<◌, ◌≤◌, ◌⊎◌, List, [], ◌∷◌, ◌++◌, length, length-append, refl, sym, ap, ◌∙◌, subst, inl, inr, arith, Some, Option}
use Rattle.std.specs.Prelude.{All}
use Rattle.std.proofs.lemmas.List.Elements.{All-nil}
use Rattle.aim_shards.specs.declared.quarter.Quarter.{Quarter}
use Rattle.aim_shards.specs.Cuts.{AreWithin}
use Rattle.aim_shards.specs.Ruled.{Suits}
use Rattle.aim_shards.specs.Sets.{Quarters}
use Rattle.aim_shards.proofs.Numbers.{each_more}

pub record IsNew (room n horizon : ℕ) (slot : Option Quarter) : Type 0 where
  pub quarter : Quarter
  pub is : slot ≡ Some quarter
  pub suits : (q : ℕ) (sets : List Quarters) → q < 4 → AreWithin n horizon sets → Suits (record { room = room; sets = sets }) q [] quarter

pub record AreNew (room n horizon k : ℕ) (slots : List (Option Quarter)) : Type 0 where
  pub count : length slots ≡ k
  pub each : All (IsNew room n horizon) slots

pub new_none : (room n horizon k : ℕ) (slots : List (Option Quarter)) → k ≡ 0 → slots ≡ [] → AreNew room n horizon k slots
new_none room n horizon k slots e e' = record { count = ap length e' ∙ sym e; each = subst (All (IsNew room n horizon)) (sym e') (All-nil (IsNew room n horizon)) }

pub new_more : (room n horizon k : ℕ) (slots slots' : List (Option Quarter)) (a : Quarter) → AreNew room n horizon k slots → ((q : ℕ) (sets : List Quarters) → q < 4 → AreWithin n horizon sets → Suits (record { room = room; sets = sets }) q [] a) → slots' ≡ slots ++ Some a ∷ [] → AreNew room n horizon (k + 1) slots'
new_more room n horizon k slots slots' a old new e = record {
  count = omega (arith, ap length e, length-append slots (Some a ∷ []), old.count);
  each = each_more (IsNew room n horizon) slots slots' (Some a) old.each record { quarter = a; is = refl; suits = new } e;
}

-- what each of four quarters has
one_of_four : (P : Quarter → Type 0) (a b c d k : Quarter) → P a → P b → P c → P d → (k ≡ a) ⊎ (k ≡ b) ⊎ (k ≡ c) ⊎ (k ≡ d) → P k
one_of_four P a b c d k pa pb pc pd (inl e) = subst P (sym e) pa
one_of_four P a b c d k pa pb pc pd (inr (inl e)) = subst P (sym e) pb
one_of_four P a b c d k pa pb pc pd (inr (inr (inl e))) = subst P (sym e) pc
one_of_four P a b c d k pa pb pc pd (inr (inr (inr e))) = subst P (sym e) pd

abbrev FourNew : ℕ → ℕ → ℕ → List (Option Quarter) → Type 0
FourNew room n horizon slots = (a : Quarter) × (b : Quarter) × (c : Quarter) × (d : Quarter) × (slots ≡ Some a ∷ Some b ∷ Some c ∷ Some d ∷ []) × ((k : Quarter) → (k ≡ a) ⊎ (k ≡ b) ⊎ (k ≡ c) ⊎ (k ≡ d) → (q : ℕ) (sets : List Quarters) → q < 4 → AreWithin n horizon sets → Suits (record { room = room; sets = sets }) q [] k)

pub new_four : (room n horizon k : ℕ) (slots : List (Option Quarter)) → k ≤ 4 → 4 ≤ k → AreNew room n horizon k slots → FourNew room n horizon slots
new_four room n horizon k slots le ge new = four slots (omega (arith, new.count, le, ge)) new.each
  where
    four : (xs : List (Option Quarter)) → length xs ≡ 4 → All (IsNew room n horizon) xs → FourNew room n horizon xs
    four [] e h = absurd (omega (arith, e))
    four (s ∷ []) e h = absurd (omega (arith, e))
    four (s ∷ t ∷ []) e h = absurd (omega (arith, e))
    four (s ∷ t ∷ u ∷ []) e h = absurd (omega (arith, e))
    four (s ∷ t ∷ u ∷ v ∷ w ∷ xs) e h = absurd (omega (arith, e))
    four (s ∷ t ∷ u ∷ v ∷ []) e h =
        let a : IsNew room n horizon s = h 0 s (omega arith) in
        let b : IsNew room n horizon t = h 1 s (omega arith) in
        let c : IsNew room n horizon u = h 2 s (omega arith) in
        let d : IsNew room n horizon v = h 3 s (omega arith) in (
          a.quarter,
          b.quarter,
          c.quarter,
          d.quarter,
          (λ i. a.is i ∷ b.is i ∷ c.is i ∷ d.is i ∷ []),
          λ k which q sets lt w. one_of_four (λ k. Suits (record { room = room; sets = sets }) q [] k) a.quarter b.quarter c.quarter d.quarter k (a.suits q sets lt w) (b.suits q sets lt w) (c.suits q sets lt w) (d.suits q sets lt w) which,
        )
