-- The seats of legs: whose they are, and that no two are the same.
use Rattle.std.proofs.Common.{◌≡◌, ◌≢◌, ℕ, suc, ◌<◌, ◌==◌, Bool, true, false, List, [], ◌∷◌, ◌++◌, length, map, get_or, if◌then◌else◌, refl, sym, ◌∙◌, subst, arith}
use Rattle.std.specs.Prelude.{AllPairs}
use Rattle.std.specs.List.{AllByRecursion, filter}
use Rattle.std.proofs.lemmas.Bool.{eqb-true}
use Rattle.std.proofs.lemmas.List.{map-append}
use Rattle.aim_grid_script.specs.declared.routes.PlannedLeg.{PlannedLeg}
use Rattle.aim_grid_script.specs.Fits.{AreApart}
use Rattle.aim_grid.specs.Runs.{legs_for}
use Rattle.aim_grid.specs.Making.{Seat, seat_of, AreOthers, legs_of_all}

-- what holds of each, made weaker
pub each_weaker : {A : Type 0} (P Q : A → Type 0) (xs : List A) → ((x : A) → P x → Q x) → AllByRecursion P xs → AllByRecursion Q xs
each_weaker P Q [] f h = tt
each_weaker P Q (x ∷ xs) f h = (f x h.0, each_weaker P Q xs f h.1)

pub each_both : {A : Type 0} (P Q R : A → Type 0) (xs : List A) → ((x : A) → P x → Q x → R x) → AllByRecursion P xs → AllByRecursion Q xs → AllByRecursion R xs
each_both P Q R [] f h k = tt
each_both P Q R (x ∷ xs) f h k = (f x h.0 k.0, each_both P Q R xs f h.1 k.1)

pub each_append : {A : Type 0} (P : A → Type 0) (xs ys : List A) → AllByRecursion P xs → AllByRecursion P ys → AllByRecursion P (xs ++ ys)
each_append P [] ys h k = k
each_append P (x ∷ xs) ys h k = (h.0, each_append P xs ys h.1 k)

pub each_left : {A : Type 0} (P : A → Type 0) (xs ys : List A) → AllByRecursion P (xs ++ ys) → AllByRecursion P xs
each_left P [] ys h = tt
each_left P (x ∷ xs) ys h = (h.0, each_left P xs ys h.1)

pub each_right : {A : Type 0} (P : A → Type 0) (xs ys : List A) → AllByRecursion P (xs ++ ys) → AllByRecursion P ys
each_right P [] ys h = h
each_right P (x ∷ xs) ys h = each_right P xs ys h.1

-- who is in neither list

pub others_append : (v c : ℕ) (xs ys : List Seat) → AreOthers v c xs → AreOthers v c ys → AreOthers v c (xs ++ ys)
others_append v c [] ys a b = b
others_append v c (x ∷ xs) ys a b = (a.0, others_append v c xs ys a.1 b)

pub others_left : (v c : ℕ) (xs ys : List Seat) → AreOthers v c (xs ++ ys) → AreOthers v c xs
others_left v c [] ys a = tt
others_left v c (x ∷ xs) ys a = (a.0, others_left v c xs ys a.1)

pub others_right : (v c : ℕ) (xs ys : List Seat) → AreOthers v c (xs ++ ys) → AreOthers v c ys
others_right v c [] ys a = a
others_right v c (x ∷ xs) ys a = others_right v c xs ys a.1

pub others_filter : (v c : ℕ) (p : PlannedLeg → Bool) (legs : List PlannedLeg) → AreOthers v c (map seat_of legs) → AreOthers v c (map seat_of (filter p legs))
others_filter v c p [] h = tt
others_filter v c p (l ∷ ls) h = go (p l) (others_filter v c p ls h.1)
  where
    go : (b : Bool) → AreOthers v c (map seat_of (filter p ls)) → AreOthers v c (map seat_of (if b then l ∷ filter p ls else filter p ls))
    go true rest = (h.0, rest)
    go false rest = rest

-- the legs of another vehicle
pub others_vehicle : (v c w : ℕ) (legs : List PlannedLeg) → w ≢ v → AreOthers v c (map seat_of (legs_for w legs))
others_vehicle v c w [] ne = tt
others_vehicle v c w (l ∷ ls) ne = go (l.vehicle == w) refl (others_vehicle v c w ls ne)
  where
    go : (b : Bool) → (l.vehicle == w) ≡ b → AreOthers v c (map seat_of (legs_for w ls)) → AreOthers v c (map seat_of (if b then l ∷ legs_for w ls else legs_for w ls))
    go true e rest = ((λ is. absurd (ne (sym (eqb-true l.vehicle w e) ∙ is))), rest)
    go false e rest = rest

pub others_vehicles : (v c : ℕ) (legs : List PlannedLeg) (vs : List ℕ) → AllByRecursion (λ w. w ≢ v) vs → AreOthers v c (map seat_of (legs_of_all legs vs))
others_vehicles v c legs [] h = tt
others_vehicles v c legs (w ∷ vs) h =
    subst (λ ss. AreOthers v c ss) (sym (map-append seat_of (legs_for w legs) (legs_of_all legs vs)))
    (others_append v c (map seat_of (legs_for w legs)) (map seat_of (legs_of_all legs vs)) (others_vehicle v c w legs h.0) (others_vehicles v c legs vs h.1))

-- who is in none of the legs is in none of those of vehicles
pub others_of_all : (v c : ℕ) (legs : List PlannedLeg) (vs : List ℕ) → AreOthers v c (map seat_of legs) → AreOthers v c (map seat_of (legs_of_all legs vs))
others_of_all v c legs [] h = tt
others_of_all v c legs (w ∷ vs) h =
    subst (λ ss. AreOthers v c ss) (sym (map-append seat_of (legs_for w legs) (legs_of_all legs vs)))
    (others_append v c (map seat_of (legs_for w legs)) (map seat_of (legs_of_all legs vs)) (others_filter v c (λ (l : PlannedLeg). l.vehicle == w) legs h) (others_of_all v c legs vs h))

-- no two are the same

abbrev pub AreDistinct : List Seat → Type 0
AreDistinct [] = Unit {0}
AreDistinct (s ∷ ss) = AreOthers s.0 s.1 ss × AreDistinct ss

abbrev pub AreDistinctNumbers : List ℕ → Type 0
AreDistinctNumbers [] = Unit {0}
AreDistinctNumbers (v ∷ vs) = AllByRecursion (λ w. w ≢ v) vs × AreDistinctNumbers vs

distinct_filter : (p : PlannedLeg → Bool) (legs : List PlannedLeg) → AreDistinct (map seat_of legs) → AreDistinct (map seat_of (filter p legs))
distinct_filter p [] h = tt
distinct_filter p (l ∷ ls) h = go (p l) (distinct_filter p ls h.1)
  where
    go : (b : Bool) → AreDistinct (map seat_of (filter p ls)) → AreDistinct (map seat_of (if b then l ∷ filter p ls else filter p ls))
    go true rest = (others_filter l.vehicle l.crossing p ls h.0, rest)
    go false rest = rest

distinct_append : (xs ys : List Seat) → AreDistinct xs → AreDistinct ys → AllByRecursion (λ (s : Seat). AreOthers s.0 s.1 ys) xs → AreDistinct (xs ++ ys)
distinct_append [] ys a b h = b
distinct_append (x ∷ xs) ys a b h = (others_append x.0 x.1 xs ys a.0 h.0, distinct_append xs ys a.1 b h.1)

-- each leg of a vehicle is apart from those of others
apart_vehicles : (w : ℕ) (legs all : List PlannedLeg) (vs : List ℕ) → AllByRecursion (λ u. u ≢ w) vs → AllByRecursion (λ (s : Seat). AreOthers s.0 s.1 (map seat_of (legs_of_all all vs))) (map seat_of (legs_for w legs))
apart_vehicles w [] all vs h = tt
apart_vehicles w (l ∷ ls) all vs h = go (l.vehicle == w) refl (apart_vehicles w ls all vs h)
  where
    go : (b : Bool) → (l.vehicle == w) ≡ b → AllByRecursion (λ (s : Seat). AreOthers s.0 s.1 (map seat_of (legs_of_all all vs))) (map seat_of (legs_for w ls))
        → AllByRecursion (λ (s : Seat). AreOthers s.0 s.1 (map seat_of (legs_of_all all vs))) (map seat_of (if b then l ∷ legs_for w ls else legs_for w ls))
    go true e rest = (subst (λ u. AreOthers u l.crossing (map seat_of (legs_of_all all vs))) (sym (eqb-true l.vehicle w e)) (others_vehicles w l.crossing all vs h), rest)
    go false e rest = rest

pub distinct_all : (legs : List PlannedLeg) (vs : List ℕ) → AreDistinct (map seat_of legs) → AreDistinctNumbers vs → AreDistinct (map seat_of (legs_of_all legs vs))
distinct_all legs [] h d = tt
distinct_all legs (v ∷ vs) h d =
    subst AreDistinct (sym (map-append seat_of (legs_for v legs) (legs_of_all legs vs)))
    (distinct_append (map seat_of (legs_for v legs)) (map seat_of (legs_of_all legs vs))
    (distinct_filter (λ (l : PlannedLeg). l.vehicle == v) legs h) (distinct_all legs vs h d.1) (apart_vehicles v legs legs vs d.0))

-- from what is said place by place

pub pairs_tail : {A : Type 0} (R : A → A → Type 0) (x : A) (xs : List A) → AllPairs R (x ∷ xs) → AllPairs R xs
pairs_tail R x xs h i j d lt l = h (suc i) (suc j) d (omega arith) (omega arith)

apart_from : (l : PlannedLeg) (ls : List PlannedLeg) → ((k : ℕ) (d : PlannedLeg) → k < length ls → AreApart l (get_or ls k d)) → AreOthers l.vehicle l.crossing (map seat_of ls)
apart_from l [] h = tt
apart_from l (m ∷ ls) h = ((λ v c. h 0 m (omega arith) (sym v) (sym c)), apart_from l ls (λ k d lt. h (suc k) d (omega arith)))

pub distinct_legs : (legs : List PlannedLeg) → AllPairs AreApart legs → AreDistinct (map seat_of legs)
distinct_legs [] h = tt
distinct_legs (l ∷ ls) h = (apart_from l ls (λ k d lt. h 0 (suc k) d (omega arith) (omega arith)), distinct_legs ls (pairs_tail AreApart l ls h))

numbers_from : {A : Type 0} (f : A → ℕ) (x : A) (xs : List A) → ((k : ℕ) (d : A) → k < length xs → f x ≢ f (get_or xs k d)) → AllByRecursion (λ w. w ≢ f x) (map f xs)
numbers_from f x [] h = tt
numbers_from f x (y ∷ xs) h = ((λ e. h 0 y (omega arith) (sym e)), numbers_from f x xs (λ k d lt. h (suc k) d (omega arith)))

pub distinct_numbers : {A : Type 0} (f : A → ℕ) (xs : List A) → AllPairs (λ x y. f x ≢ f y) xs → AreDistinctNumbers (map f xs)
distinct_numbers f [] h = tt
distinct_numbers f (x ∷ xs) h = (numbers_from f x xs (λ k d lt. h 0 (suc k) d (omega arith) (omega arith)), distinct_numbers f xs (pairs_tail (λ x y. f x ≢ f y) x xs h))
