-- Reading lists at a place.
use Prim.Native.Nat.{zero, suc}
use Rattle.std.proofs.Common.{◌≡◌, ℕ, ◌<◌, List, [], ◌∷◌, length, map, get_or, Some, refl, sym, ◌∙◌, arith}
use Rattle.std.specs.Prelude.{slice_get}
use Rattle.std.proofs.lemmas.List.{get_or-map, length-map}
use Rattle.std.proofs.lemmas.Option.{slice_get_within, slice_get-get_or, get_or_from_slice_get}

module _ {A : Type 0} where
  -- there is an element at each place within
  pub element : (xs : List A) (k : ℕ) → k < length xs → (x : A) × (get_or xs k x ≡ x)
  element [] k l = absurd (omega arith)
  element (x ∷ xs) zero l = (x, refl)
  element (x ∷ xs) (suc k) l = let r = element xs k (omega arith) in (r.0, r.1)

  -- what is read at a place
  pub record IsRead (xs : List A) (k : ℕ) (x : A) : Type 0 where
    pub within : k < length xs
    pub is : (d : A) → get_or xs k d ≡ x

  pub reads : (xs : List A) (k : ℕ) (x : A) → slice_get xs k ≡ Some x → IsRead xs k x
  reads xs k x e = record { within = slice_get_within xs k x e; is = λ d. get_or_from_slice_get xs k x d e }

  pub reads_at : (xs : List A) (k : ℕ) (d : A) → k < length xs → slice_get xs k ≡ Some (get_or xs k d)
  reads_at xs k d l = slice_get-get_or xs k d l

module _ {A B : Type 0} (f : A → B) where
  -- an element of a mapped list is that of an element
  pub record IsReadOf (xs : List A) (k : ℕ) (y : B) : Type 0 where
    pub within : k < length xs
    pub is : (d : A) → f (get_or xs k d) ≡ y

  pub reads_of : (xs : List A) (k : ℕ) (y : B) → slice_get (map f xs) k ≡ Some y → IsReadOf xs k y
  reads_of xs k y e =
      let w : k < length (map f xs) = slice_get_within (map f xs) k y e in
      let n : length (map f xs) ≡ length xs = length-map xs f in
      let lt : k < length xs = omega arith in
      record {
        within = lt;
        is = λ d. sym (get_or-map f xs k d y lt) ∙ get_or_from_slice_get (map f xs) k y y e;
      }

-- two lists that agree at each place
pub same_maps : {A B C : Type 0} (f : A → C) (g : B → C) (xs : List A) (ys : List B) → length ys ≡ length xs
    → ((k : ℕ) (a : A) (b : B) → k < length xs → g (get_or ys k b) ≡ f (get_or xs k a)) → map g ys ≡ map f xs
same_maps f g [] [] len same = refl
same_maps f g [] (y ∷ ys) len same = absurd (omega arith)
same_maps f g (x ∷ xs) [] len same = absurd (omega arith)
same_maps f g (x ∷ xs) (y ∷ ys) len same = λ i. same 0 x y (omega arith) i ∷ same_maps f g xs ys (omega arith) (λ k a b l. same (suc k) a b (omega arith)) i
