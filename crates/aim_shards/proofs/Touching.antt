-- Which quadrants a set touches.
use Rattle.std.proofs.Common.{◌≡◌, ℕ, zero, suc, ◌<◌, Bool, true, false, ◌&&◌, ◌||◌, not, [], ◌∷◌, get_or, refl, ◌∙◌, arith}
use Rattle.aim_shards.specs.Sets.{Quarters, has_cells, lies_in, touches_of}

-- by whether it has a cell in each
pub touches_by : (set : Quarters) (a b c d : Bool) → a ≡ has_cells set 0 → b ≡ has_cells set 1 → c ≡ has_cells set 2 → d ≡ has_cells set 3 → (a || not (a || b || c || d)) ∷ b ∷ c ∷ d ∷ [] ≡ touches_of set
touches_by set a b c d ea eb ec ed = by a b c d ∙ (λ i. (ea i || (not (ea i || eb i || ec i || ed i) && true)) ∷ (eb i || (not (ea i || eb i || ec i || ed i) && false)) ∷ (ec i || (not (ea i || eb i || ec i || ed i) && false)) ∷ (ed i || (not (ea i || eb i || ec i || ed i) && false)) ∷ [])
  where
    and_true : (b : Bool) → b ≡ (b && true)
    and_true true = refl
    and_true false = refl

    or_none : (a b : Bool) → a ≡ (a || (b && false))
    or_none true b = refl
    or_none false true = refl
    or_none false false = refl

    by : (a b c d : Bool) → (a || not (a || b || c || d)) ∷ b ∷ c ∷ d ∷ [] ≡ (a || (not (a || b || c || d) && true)) ∷ (b || (not (a || b || c || d) && false)) ∷ (c || (not (a || b || c || d) && false)) ∷ (d || (not (a || b || c || d) && false)) ∷ []
    by a b c d = λ i. (a || and_true (not (a || b || c || d)) i) ∷ or_none b (not (a || b || c || d)) i ∷ or_none c (not (a || b || c || d)) i ∷ or_none d (not (a || b || c || d)) i ∷ []

-- at the place of a quadrant
pub touches_at : (set : Quarters) (q : ℕ) (d : Bool) → q < 4 → get_or (touches_of set) q d ≡ lies_in set q
touches_at set zero d lt = refl
touches_at set (suc zero) d lt = refl
touches_at set (suc (suc zero)) d lt = refl
touches_at set (suc (suc (suc zero))) d lt = refl
touches_at set (suc (suc (suc (suc q)))) d lt = absurd (omega (arith, lt))
