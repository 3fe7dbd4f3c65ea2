-- The stations of the ways stand near each other.
use Rattle.std.proofs.Common.{◌≡◌, ℕ, zero, suc, ◌+◌, ◌-◌, ◌<◌, Bool, true, false, not, List, [], ◌∷◌, length, get_or, None, refl, arith}
use Rattle.std.specs.Prelude.{◌&&◌}
use Rattle.aim_geometry.specs.declared.stations.Station.{Station}
use Rattle.aim_geometry.proofs.BoundedLemmas.{least_below_none}
use Rattle.aim_layout.specs.declared.shapes.Shape.{Shape}
use Rattle.aim_layout.specs.declared.shapes.Shape.TheVariants.{Line, Curve}
use Rattle.aim_layout.specs.Shapes.{stations_of, is_bad_shape, are_wide, wide_step, origin}

-- whether each station of a list is near the next
abbrev near_next : ℕ → Station → List Station → Bool
near_next spacing a [] = true
near_next spacing a (b ∷ ss) = not (are_wide spacing a b) && near_next spacing b ss

abbrev are_near : ℕ → List Station → Bool
are_near spacing [] = true
are_near spacing (a ∷ ss) = near_next spacing a ss

both : (a b : Bool) → (not a && b) ≡ true → (a ≡ false) × (b ≡ true)
both false true e = (refl, refl)
both false false e = absurd (cc)
both true b e = absurd (cc)

near_at : (spacing : ℕ) (a : Station) (ss : List Station) (j : ℕ) → near_next spacing a ss ≡ true → j < length ss → are_wide spacing (get_or (a ∷ ss) j origin) (get_or (a ∷ ss) (suc j) origin) ≡ false
near_at spacing a [] j e lt = absurd (omega (arith, lt))
near_at spacing a (b ∷ ss) zero e lt = (both (are_wide spacing a b) (near_next spacing b ss) e).0
near_at spacing a (b ∷ ss) (suc j) e lt = near_at spacing b ss j (both (are_wide spacing a b) (near_next spacing b ss) e).1 (omega (arith, lt))

near_all : (spacing : ℕ) (ss : List Station) → are_near spacing ss ≡ true → wide_step spacing ss ≡ None
near_all spacing [] e = refl
near_all spacing (a ∷ ss) e =
    least_below_none (length (a ∷ ss) - 1) (λ j. are_wide spacing (get_or (a ∷ ss) j origin) (get_or (a ∷ ss) (j + 1) origin)) (λ j lt.
    let next : j + 1 ≡ suc j = omega arith in
    rw next (near_at spacing a ss j e (omega (arith, lt))))

-- a way that the layout takes
pub record IsWay (s : Shape) : Type 0 where
  pub fine : is_bad_shape 24000 s ≡ false
  pub near : wide_step 100 (stations_of s) ≡ None

way : (s : Shape) → is_bad_shape 24000 s ≡ false → are_near 100 (stations_of s) ≡ true → IsWay s
way s fine near = record { fine = fine; near = near_all 100 (stations_of s) near }

pub west_left : IsWay (Curve 0 10500 13500 10500 13500 24000 280)
west_left = way (Curve 0 10500 13500 10500 13500 24000 280) refl refl

pub west_straight : IsWay (Line 0 7500 24000 7500 240)
west_straight = way (Line 0 7500 24000 7500 240) refl refl

pub west_right : IsWay (Curve 0 4500 4500 4500 4500 0 95)
west_right = way (Curve 0 4500 4500 4500 4500 0 95) refl refl

pub south_left : IsWay (Curve 13500 0 13500 13500 0 13500 280)
south_left = way (Curve 13500 0 13500 13500 0 13500 280) refl refl

pub south_straight : IsWay (Line 16500 0 16500 24000 240)
south_straight = way (Line 16500 0 16500 24000 240) refl refl

pub south_right : IsWay (Curve 19500 0 19500 4500 24000 4500 95)
south_right = way (Curve 19500 0 19500 4500 24000 4500 95) refl refl

pub east_left : IsWay (Curve 24000 13500 10500 13500 10500 0 280)
east_left = way (Curve 24000 13500 10500 13500 10500 0 280) refl refl

pub east_straight : IsWay (Line 24000 16500 0 16500 240)
east_straight = way (Line 24000 16500 0 16500 240) refl refl

pub east_right : IsWay (Curve 24000 19500 19500 19500 19500 24000 95)
east_right = way (Curve 24000 19500 19500 19500 19500 24000 95) refl refl

pub north_left : IsWay (Curve 10500 24000 10500 10500 24000 10500 280)
north_left = way (Curve 10500 24000 10500 10500 24000 10500 280) refl refl

pub north_straight : IsWay (Line 7500 24000 7500 0 240)
north_straight = way (Line 7500 24000 7500 0 240) refl refl

pub north_right : IsWay (Curve 4500 24000 4500 19500 0 19500 95)
north_right = way (Curve 4500 24000 4500 19500 0 19500 95) refl refl
