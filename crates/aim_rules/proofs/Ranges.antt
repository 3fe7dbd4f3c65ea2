-- A test over a part of a list.
use Rattle.std.proofs.Common.{◌≡◌, ℕ, ◌+◌, ◌-◌, ◌<◌, ◌≤◌, Bool, true, false, ◌||◌, List, [], ◌∷◌, ◌++◌, length, get_or, drop, arith, refl, length-drop, length-take, get_or-drop, get_or-take}
use Rattle.std.specs.List.{list_any, slice_range}
use Rattle.std.proofs.lemmas.List.{take_more}
use Rattle.std.proofs.lemmas.List.FromFn.{length-map-range_with_len, get_or-map-range_with_len}
use Rattle.aim_geometry.specs.declared.stations.Station.{Station}
use Rattle.aim_geometry.specs.Stations.{line, on_line}
use Rattle.std.proofs.lemmas.List.Folds.{list_any-append, list_any_at}

-- one more element of a part
pub slice_range_more : {X : Type 0} (xs : List X) (low j : ℕ) (d : X) → low ≤ j → j < length xs → slice_range xs low (j + 1) ≡ slice_range xs low j ++ get_or xs j d ∷ []
slice_range_more xs low j d a b =
    let e : j + 1 - low ≡ (j - low) + 1 = omega arith in
    let s : low + (j - low) ≡ j = omega arith in
    let l : j - low < length (drop low xs) = omega (arith, length-drop low xs) in
    rw (e, take_more (drop low xs) (j - low) d l, get_or-drop, s) refl

or_false : (b : Bool) → (b || false) ≡ b
or_false true = refl
or_false false = refl

pub list_any-slice_range_more : {X : Type 0} (p : X → Bool) (xs : List X) (low j : ℕ) (d : X) → low ≤ j → j < length xs → list_any p (slice_range xs low (j + 1)) ≡ (list_any p (slice_range xs low j) || p (get_or xs j d))
list_any-slice_range_more p xs low j d a b = rw (slice_range_more xs low j d a b, list_any-append p (slice_range xs low j) (get_or xs j d ∷ []), or_false (p (get_or xs j d))) refl

pub list_any-slice_range_at : {X : Type 0} (p : X → Bool) (xs : List X) (low high j : ℕ) (d : X) → low ≤ j → j < high → j < length xs → p (get_or xs j d) ≡ true → list_any p (slice_range xs low high) ≡ true
list_any-slice_range_at p xs low high j d a b c h =
    let l : j - low < length (slice_range xs low high) = simp (length-take, length-drop) (omega arith) in
    let m : j - low < high - low = omega arith in
    let s : low + (j - low) ≡ j = omega arith in
    list_any_at p (slice_range xs low high) (j - low) d l (rw (get_or-take, get_or-drop, s) h)

-- the stations of a line
pub length-line : (x0 y0 x1 y1 m : ℕ) → length (line x0 y0 x1 y1 m) ≡ m + 1
length-line x0 y0 x1 y1 m = length-map-range_with_len (λ j. record { x = on_line x0 x1 m j; y = on_line y0 y1 m j }) 0 (m + 1)

pub get_or-line : (x0 y0 x1 y1 m j : ℕ) (d : Station) → j ≤ m → get_or (line x0 y0 x1 y1 m) j d ≡ record { x = on_line x0 x1 m j; y = on_line y0 y1 m j }
get_or-line x0 y0 x1 y1 m j d h =
    get_or-map-range_with_len (λ j. record { x = on_line x0 x1 m j; y = on_line y0 y1 m j }) 0 (m + 1) j j d (omega arith) (omega arith)
