-- Elements of lists in which one element was changed or added.
use Rattle.std.proofs.Common.{◌≡◌, ℕ, ◌+◌, ◌<◌, ◌≤◌, ◌⊎◌, inl, inr, List, [], ◌∷◌, ◌++◌, length, slice_get, get_or, set, replicate, take, Some, arith, refl, sym, ◌∙◌, ap, length-append}
use Rattle.std.proofs.Math.Decide.{dec_lt}
use Rattle.std.proofs.Math.Seq.{get_or-append_seam, take-length}
use Rattle.std.proofs.lemmas.Bool.{cases_eq}
use Rattle.std.proofs.lemmas.List.{length-set, replicate_more, take_more, get_or-set_same, get_or-set_other, get_or_append_left, get_or-replicate, length-replicate}
use Rattle.std.proofs.lemmas.Option.{get_or_from_slice_get, slice_get-get_or, slice_get_past, slice_get_read, slice_get_within}

pub slice_get-set_same : {X : Type 0} (xs : List X) (k : ℕ) (y : X) → k < length xs → slice_get (set xs k y) k ≡ Some y
slice_get-set_same xs k y h =
    let l : k < length (set xs k y) = omega (arith, length-set xs k y) in
    slice_get-get_or (set xs k y) k y l ∙ ap Some (get_or-set_same xs k y y h)

pub slice_get-set_other : {X : Type 0} (xs : List X) (k j : ℕ) (y : X) → (j ≡ k → ⊥) → slice_get (set xs k y) j ≡ slice_get xs j
slice_get-set_other xs k j y n = elim (dec_lt j (length xs)) [
  | yes l ↦ (let m : j < length (set xs k y) = omega (arith, length-set xs k y) in
      slice_get-get_or (set xs k y) j y m ∙ ap Some (get_or-set_other xs k j y y n) ∙ sym (slice_get-get_or xs j y l))
  | no l ↦ (let m : length (set xs k y) ≤ j = omega (arith, length-set xs k y) in
      slice_get_past (set xs k y) j m ∙ sym (slice_get_past xs j (omega arith)))
]

-- an element of a list of which one was changed
pub set_cases : {X : Type 0} (xs : List X) (k j : ℕ) (y p : X) → k < length xs → slice_get (set xs k y) j ≡ Some p → ((j ≡ k) × (p ≡ y)) ⊎ ((j ≡ k → ⊥) × (slice_get xs j ≡ Some p))
set_cases xs k j y p h e = elim (cases_eq j k) [
  | inl q ↦ inl (q, (let f : slice_get (set xs k y) k ≡ Some p = rw q at e in let g = slice_get-set_same xs k y h in cc))
  | inr n ↦ inr (n, sym (slice_get-set_other xs k j y n) ∙ e)
]

-- an element of a list to which one was added
pub append_cases : {X : Type 0} (xs : List X) (y p : X) (j : ℕ) → slice_get (xs ++ y ∷ []) j ≡ Some p → ((j < length xs) × (slice_get xs j ≡ Some p)) ⊎ ((j ≡ length xs) × (p ≡ y))
append_cases xs y p j e =
    let l : j < length (xs ++ y ∷ []) = slice_get_within (xs ++ y ∷ []) j p e in
    let f : Some p ≡ Some (get_or (xs ++ y ∷ []) j y) = sym e ∙ slice_get-get_or (xs ++ y ∷ []) j y l in
    elim (dec_lt j (length xs)) [
      | yes m ↦ inl (m, (let g = get_or_append_left xs (y ∷ []) y j m in let o = slice_get-get_or xs j y m in cc))
      | no m ↦ (let q : j ≡ length xs = omega (arith, length-append xs (y ∷ [])) in
          let g : get_or (xs ++ y ∷ []) j y ≡ y = rw q (get_or-append_seam xs y [] y) in
          inr (q, (cc)))
    ]

pub replicate_all : {X : Type 0} (n j : ℕ) (y p : X) → slice_get (replicate n y) j ≡ Some p → p ≡ y
replicate_all n j y p e =
    let l : j < length (replicate n y) = slice_get_within (replicate n y) j p e in
    let m : j < n = omega (arith, length-replicate n y) in
    let g = slice_get-get_or (replicate n y) j y l in
    let o = get_or-replicate n j y y m in
    cc

-- an element that was read is the element, whatever stands for those that aren't there
pub get_or-read : {X : Type 0} (xs : List X) (k : ℕ) (x d : X) → k < length xs → x ≡ get_or xs k x → get_or xs k d ≡ x
get_or-read xs k x d h e = get_or_from_slice_get xs k x d (slice_get_read xs (length xs) k x refl h e)

-- a list that has one more of the same
pub same_more : {X : Type 0} (n : ℕ) (y x : X) (old new : List X) → old ≡ replicate n y → x ≡ y → new ≡ old ++ x ∷ [] → new ≡ replicate (n + 1) y
same_more n y x old new o is e = rw (e, o, is) (replicate_more n y)

-- a copy that has one more of the elements
pub copied_more : {X : Type 0} (xs : List X) (k : ℕ) (x d : X) (old new : List X) → k < length xs → old ≡ take k xs → x ≡ get_or xs k d → new ≡ old ++ x ∷ [] → new ≡ take (k + 1) xs
copied_more xs k x d old new h o is e = rw (e, o, is) (sym (take_more xs k d h))

-- a copy that has all the elements
pub copied_all : {X : Type 0} (xs : List X) (k : ℕ) (copies : List X) → k ≤ length xs → length xs ≤ k → copies ≡ take k xs → copies ≡ xs
copied_all xs k copies most all e =
    let end : k ≡ length xs = omega arith in
    rw (e, end) (take-length xs)
