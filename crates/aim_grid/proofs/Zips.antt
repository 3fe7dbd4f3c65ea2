-- Two lists side by side.
use Rattle.std.proofs.Common.{◌≡◌, ◌≢◌, ℕ, zero, suc, ◌<◌, List, [], ◌∷◌, ◌++◌, length, map, Some, None, refl, ap, subst, arith}
use Rattle.std.specs.Prelude.{slice_get}
use Rattle.std.proofs.Math.ListN.{set}
use Rattle.std.specs.List.{AllZip}

pub same_some : {A : Type 0} {x y : A} → Some x ≡ Some y → x ≡ y
same_some e = cc e

module _ {A B : Type 0} (R : A → B → Type 0) where
  pub zip_length : (xs : List A) (ys : List B) → AllZip R xs ys → length ys ≡ length xs
  zip_length [] [] h = refl
  zip_length [] (y ∷ ys) h = absurd h
  zip_length (x ∷ xs) [] h = absurd h
  zip_length (x ∷ xs) (y ∷ ys) h = ap suc (zip_length xs ys h.1)

  pub zip_push : (xs : List A) (ys : List B) (x : A) (y : B) → AllZip R xs ys → R x y → AllZip R (xs ++ x ∷ []) (ys ++ y ∷ [])
  zip_push [] [] x y h r = (r, tt)
  zip_push [] (z ∷ ys) x y h r = absurd h
  zip_push (w ∷ xs) [] x y h r = absurd h
  zip_push (w ∷ xs) (z ∷ ys) x y h r = (h.0, zip_push xs ys x y h.1 r)

  -- what is said of a place
  pub zip_at : (xs : List A) (ys : List B) (k : ℕ) (x : A) (y : B) → AllZip R xs ys → slice_get xs k ≡ Some x → slice_get ys k ≡ Some y → R x y
  zip_at [] ys k x y h a b = absurd (cc a)
  zip_at (w ∷ xs) [] k x y h a b = absurd h
  zip_at (w ∷ xs) (z ∷ ys) zero x y h a b = here w z (same_some a) (same_some b) h.0
    where
      here : (w : A) (z : B) → w ≡ x → z ≡ y → R w z → R x y
      here w z e f r = subst (λ (v : B). R x v) f (subst (λ (u : A). R u z) e r)
  zip_at (w ∷ xs) (z ∷ ys) (suc k) x y h a b = zip_at xs ys k x y h.1 a b

  pub zip_from : (xs : List A) (ys : List B) → length ys ≡ length xs → ((k : ℕ) (x : A) (y : B) → slice_get xs k ≡ Some x → slice_get ys k ≡ Some y → R x y) → AllZip R xs ys
  zip_from [] [] n h = tt
  zip_from [] (y ∷ ys) n h = absurd (omega arith)
  zip_from (x ∷ xs) [] n h = absurd (omega arith)
  zip_from (x ∷ xs) (y ∷ ys) n h = (h 0 x y refl refl, zip_from xs ys (omega arith) (λ k a b. h (suc k) a b))

pub zip_weaker : {A B : Type 0} (R S : A → B → Type 0) (xs : List A) (ys : List B) → ((x : A) (y : B) → R x y → S x y) → AllZip R xs ys → AllZip S xs ys
zip_weaker R S [] [] f h = tt
zip_weaker R S [] (y ∷ ys) f h = absurd h
zip_weaker R S (x ∷ xs) [] f h = absurd h
zip_weaker R S (x ∷ xs) (y ∷ ys) f h = (f x y h.0, zip_weaker R S xs ys f h.1)

-- there is an element at each place within
pub there : {A : Type 0} (xs : List A) (k : ℕ) → k < length xs → (x : A) × (slice_get xs k ≡ Some x)
there [] k l = absurd (omega arith)
there (x ∷ xs) zero l = (x, refl)
there (x ∷ xs) (suc k) l = let r = there xs k (omega arith) in (r.0, r.1)

-- what is read behind a write
pub set_here : {A : Type 0} (xs : List A) (k : ℕ) (x y : A) → slice_get xs k ≡ Some x → slice_get (set xs k y) k ≡ Some y
set_here [] k x y at = absurd (cc at)
set_here (z ∷ xs) zero x y at = refl
set_here (z ∷ xs) (suc k) x y at = set_here xs k x y at

pub set_there : {A : Type 0} (xs : List A) (k j : ℕ) (y : A) → j ≢ k → slice_get (set xs k y) j ≡ slice_get xs j
set_there [] k j y ne = refl
set_there (z ∷ xs) zero zero y ne = absurd (ne refl)
set_there (z ∷ xs) zero (suc j) y ne = refl
set_there (z ∷ xs) (suc k) zero y ne = refl
set_there (z ∷ xs) (suc k) (suc j) y ne = set_there xs k j y (λ e. ne (ap suc e))

-- a list that is mapped has at a place what the element there gives
pub map_at : {A B : Type 0} (f : A → B) (xs : List A) (k : ℕ) (x : A) → slice_get xs k ≡ Some x → slice_get (map f xs) k ≡ Some (f x)
map_at f [] k x at = absurd (cc at)
map_at f (y ∷ xs) zero x at = ap (λ o. Some o) (ap f (same_some at))
map_at f (y ∷ xs) (suc k) x at = map_at f xs k x at

pub record IsMapped {A B : Type 0} (f : A → B) (xs : List A) (k : ℕ) (y : B) : Type 0 where
  pub of : A
  pub at : slice_get xs k ≡ Some of
  pub is : f of ≡ y

pub map_from : {A B : Type 0} (f : A → B) (xs : List A) (k : ℕ) (y : B) → slice_get (map f xs) k ≡ Some y → IsMapped f xs k y
map_from f [] k y at = absurd (none_some y at)
  where
    none_some : {C : Type 0} (y : C) → None ≡ Some y → ⊥
    none_some y e = absurd (cc e)
map_from f (x ∷ xs) zero y at = record { of = x; at = refl; is = same_some at }
map_from f (x ∷ xs) (suc k) y at = let r = map_from f xs k y at in record { of = r.of; at = r.at; is = r.is }
