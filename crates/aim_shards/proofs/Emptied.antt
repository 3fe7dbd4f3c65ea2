-- Four slots from which all was taken.
use Rattle.std.proofs.Common.{◌≡◌, ℕ, zero, suc, ◌<◌, Bool, false, List, [], ◌∷◌, get_or, refl, ap, ◌∙◌, arith}
use Rattle.std.specs.Prelude.{slice_set}

none_left : (f : List Bool) (k : ℕ) → k < 4 → get_or (slice_set (slice_set (slice_set (slice_set f 0 false) 1 false) 2 false) 3 false) k false ≡ false
none_left [] k lt = refl
none_left (a ∷ []) zero lt = refl
none_left (a ∷ []) (suc k) lt = refl
none_left (a ∷ b ∷ []) zero lt = refl
none_left (a ∷ b ∷ []) (suc zero) lt = refl
none_left (a ∷ b ∷ []) (suc (suc k)) lt = refl
none_left (a ∷ b ∷ c ∷ []) zero lt = refl
none_left (a ∷ b ∷ c ∷ []) (suc zero) lt = refl
none_left (a ∷ b ∷ c ∷ []) (suc (suc zero)) lt = refl
none_left (a ∷ b ∷ c ∷ []) (suc (suc (suc k))) lt = refl
none_left (a ∷ b ∷ c ∷ d ∷ f) zero lt = refl
none_left (a ∷ b ∷ c ∷ d ∷ f) (suc zero) lt = refl
none_left (a ∷ b ∷ c ∷ d ∷ f) (suc (suc zero)) lt = refl
none_left (a ∷ b ∷ c ∷ d ∷ f) (suc (suc (suc zero))) lt = refl
none_left (a ∷ b ∷ c ∷ d ∷ f) (suc (suc (suc (suc k)))) lt = absurd (omega (arith, lt))

pub all_taken : (f f1 f2 f3 f4 : List Bool) {n : ℕ} → f1 ≡ slice_set f 0 false → f2 ≡ slice_set f1 1 false → f3 ≡ slice_set f2 2 false → f4 ≡ slice_set f3 3 false → n ≡ 4 → (k : ℕ) → k < n → get_or f4 k false ≡ false
all_taken f f1 f2 f3 f4 e1 e2 e3 e4 four k lt =
    ap (λ (l : List Bool). get_or l k false) (e4 ∙ ap (λ (l : List Bool). slice_set l 3 false) (e3 ∙ ap (λ (l : List Bool). slice_set l 2 false) (e2 ∙ ap (λ (l : List Bool). slice_set l 1 false) e1)))
    ∙ none_left f k (omega (arith, four, lt))
