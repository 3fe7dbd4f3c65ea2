-- What holds of each element of a list up to a place.
use Rattle.std.proofs.Common.{◌≡◌, inl, inr, ℕ, ◌+◌, ◌<◌, List, length, get_or, ◌∙◌, subst, arith}
use Rattle.std.proofs.lemmas.Bool.{cases_lt}
use Rattle.std.proofs.lemmas.List.{get_or_default}

-- and of the next one
pub each_more : {A : Type 0} (P : A → Type 0) (xs : List A) (i : ℕ) (x e : A) → i < length xs → x ≡ get_or xs i e → ((k : ℕ) (d : A) → k < i → P (get_or xs k d)) → P x → (k : ℕ) (d : A) → k < i + 1 → P (get_or xs k d)
each_more P xs i x e there is each holds k d lt = elim (cases_lt k i) [
  | inl before ↦ each k d before
  | inr last ↦ (let same : i ≡ k = omega (arith, last, lt) in subst (λ n. P (get_or xs n d)) same (subst P (is ∙ get_or_default xs i e d there) holds))
]
