-- The stations that the steps of a crossing reach.
use Rattle.std.proofs.Common.{◌≡◌, ℕ, zero, suc, ◌+◌, ◌-◌, ◌/◌, ◌<◌, ◌≤◌, Bool, false, List, length, get_or, set, arith, refl, nat_lt, take, length-take, get_or-take, ◌∙◌, inl, inr}
use Rattle.std.proofs.lemmas.Bool.{ltb-false, cases_eq}
use Rattle.std.proofs.Math.Nat.{div-le_of_le-mul}
use Rattle.std.proofs.Math.Decide.{dec_lt}
use Rattle.std.proofs.lemmas.List.{get_or-set_same, get_or-set_other}
use Rattle.aim_messages.specs.declared.messages.Params.{Params}
use Rattle.aim_geometry.proofs.Quotients.{quotients_order}
use Rattle.aim_layout.specs.Intersection.{Intersection, stations}
use Rattle.aim_rules.specs.Motion.{front}
use Rattle.aim_rules.specs.Footprint.{path_length, crossing_steps}
use Rattle.aim_rules.proofs.MotionLemmas.{front_more}
use Rattle.aim_footprint.specs.declared.reaches.Reach.{Reach}
use Rattle.aim_footprint.specs.Reaches.{reach_at, reach_of, AreReachesOf}

pub reach_set : (reaches : List Reach) (k j low high : ℕ) (r : Reach) → k < length reaches → j < k + 1 → (j < k → reach_at reaches j ≡ r) → (j ≡ k → low ≡ r.low) → (j ≡ k → high ≡ r.high) →
    reach_at (set reaches k (record { low = low; high = high })) j ≡ r
reach_set reaches k j low high r a b was is_low is_high = elim (cases_eq j k) [
  | inl e ↦ rw (e, get_or-set_same reaches k (record { low = low; high = high }) (record { low = 0; high = 0 }) a, is_low e, is_high e) refl
  | inr n ↦ rw (get_or-set_other reaches k j (record { low = low; high = high }) (record { low = 0; high = 0 }) n) (was (omega arith))
]

-- the front goes on
pub front_rises : (p : Params) (fast : Bool) (j k : ℕ) → p.speed ≤ p.max_speed → j ≤ k → front p fast j ≤ front p fast k
front_rises p fast j zero s h = let e : j ≡ zero = omega arith in rw e (omega arith)
front_rises p fast j (suc k) s h = elim (dec_lt k j) [
  | yes l ↦ (let e : j ≡ suc k = omega arith in rw e (omega arith))
  | no n ↦ (let r = front_rises p fast j k s (omega arith) in let m = front_more p fast k s in let a : suc k ≡ k + 1 = omega arith in rw a (omega arith))
]

-- the reaches of a crossing rise, stay on the path, and go on from each other
pub reaches_are : (i : Intersection) (p : Params) (fast : Bool) (n : ℕ) (reaches : List Reach) → 0 < i.grid.spacing → 0 < length (stations i p.lane p.turn) → p.speed ≤ p.max_speed →
    n ≤ length reaches → n ≡ crossing_steps i p fast →
    ((k : ℕ) → k < n → nat_lt (path_length i p + p.length) (front p fast k) ≡ false) →
    ((k : ℕ) → k < n → reach_at reaches k ≡ reach_of i p fast k) → AreReachesOf i p fast (take n reaches)
reaches_are i p fast n reaches some path s room steps none exact = record {
  count = length-take n reaches ∙ omega arith;
  each = λ k l. at k (fits k l);
  order = record {
    order = λ k l. rw (at k (fits k l)) (ordered k (fits k l));
    within = λ k l. rw (at k (fits k l)) (omega arith);
    low_rises = λ j k a l. rw (at j (let b = fits k l in omega arith), at k (fits k l)) (quotients_order (front p fast j - p.length) (front p fast k - p.length) i.grid.spacing some (let f = front_rises p fast j k s a in omega arith));
    high_rises = λ j k a l. rw (at j (let b = fits k l in omega arith), at k (fits k l))
        (let f = front_rises p fast (j + 1) (k + 1) s (omega arith) in
        let q = quotients_order (front p fast (j + 1) + (i.grid.spacing - 1)) (front p fast (k + 1) + (i.grid.spacing - 1)) i.grid.spacing some (omega arith) in omega arith);
    joined = λ k l.
        let b = fits (k + 1) l in
        let a = low_in (k + 1) b in
        let q = quotients_order (front p fast (k + 1) - p.length) (front p fast (k + 1) + (i.grid.spacing - 1)) i.grid.spacing some (omega arith) in
        rw (at (k + 1) b, at k (omega arith)) (omega arith);
  };
}
  where
    fits : (k : ℕ) → k < length (take n reaches) → k < n
    fits k l = omega (arith, length-take n reaches)

    at : (k : ℕ) → k < n → reach_at (take n reaches) k ≡ reach_of i p fast k
    at k l = get_or-take n reaches k (record { low = 0; high = 0 }) l ∙ exact k l

    low_in : (k : ℕ) → k < n → (front p fast k - p.length) / i.grid.spacing ≤ length (stations i p.lane p.turn) - 1
    low_in k l =
        let f : front p fast k ≤ path_length i p + p.length = ltb-false (path_length i p + p.length) (front p fast k) (none k l) in
        div-le_of_le-mul i.grid.spacing (omega arith)

    ordered : (k : ℕ) → k < n → (reach_of i p fast k).low ≤ (reach_of i p fast k).high
    ordered k l =
        let a = low_in k l in
        let g = front_rises p fast k (k + 1) s (omega arith) in
        let b = quotients_order (front p fast k - p.length) (front p fast (k + 1) + (i.grid.spacing - 1)) i.grid.spacing some (omega arith) in
        omega arith

-- one element more is as it should be
pub set_below : {X : Type 0} (P : ℕ → X → Type 0) (xs : List X) (k : ℕ) (x d : X) → k < length xs → ((j : ℕ) → j < k → P j (get_or xs j d)) → P k x → (j : ℕ) → j < k + 1 → P j (get_or (set xs k x) j d)
set_below P xs k x d h was here j l = elim (cases_eq j k) [
  | inl e ↦ rw (e, get_or-set_same xs k x d h) here
  | inr n ↦ rw (get_or-set_other xs k j x d n) (was j (omega arith))
]
