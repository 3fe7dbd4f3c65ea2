-- The way of a vehicle is the sum of its speeds.
use Rattle.std.proofs.Common.{◌≡◌, ℕ, zero, suc, ◌+◌, ◌-◌, ◌*◌, ◌/◌, ◌<◌, ◌≤◌, Bool, true, false, min, Option, Some, None, arith, refl, ◌∙◌, leb, eqb, eq-eqb, add-one, unwrap_or, nat_lt, lt-ltb}
use Rattle.std.proofs.Math.Nat.{add-mul-div_left, mul-le-mul_left}
use Rattle.std.proofs.Math.Decide.{dec_lt}
use Rattle.std.proofs.lemmas.Bool.{le-leb, lt-leb, ne_eqb}
use Rattle.aim_messages.specs.declared.messages.Params.{Params}
use Rattle.aim_geometry.specs.Bounded.{ceil_div, least_below}
use Rattle.aim_layout.specs.Intersection.{Intersection}
use Rattle.aim_rules.specs.Motion.{ramp, way, top_step, front, gain, sum_below, speed_in}
use Rattle.aim_rules.specs.Footprint.{crossing_steps, path_length}
use Rattle.aim_geometry.proofs.BoundedLemmas.{IsLeast, least_below_found}

-- the numbers below k + 1 add up to k more than those below k
pub triangle_more : (k : ℕ) → (k + 1) * (k + 1 - 1) / 2 ≡ k * (k - 1) / 2 + k
triangle_more zero = refl
triangle_more (suc j) =
    let a : suc j + 1 - 1 ≡ suc j = omega arith in
    let b : suc j - 1 ≡ j = omega arith in
    let e : (suc j + 1) * suc j ≡ suc j * j + 2 * suc j = omega arith in
    rw (a, b, e) (add-mul-div_left (suc j * j) (suc j) (omega arith))

pub ramp_more : (s a k : ℕ) → ramp s a (k + 1) ≡ ramp s a k + (s + a * k)
ramp_more s a k = rw (triangle_more k) (omega arith)

-- what the step is at which the speed stops growing
pub record IsTop (s a g q : ℕ) : Type 0 where
  pub reached : g ≤ s + a * q
  pub before : (j : ℕ) → j < q → s + a * j < g

-- A sum that gains v in a step: below q by r, and from q on by the same number each time.
piece_more : (r : ℕ → ℕ) (g q k v : ℕ) → (k < q → r (k + 1) ≡ r k + v) → (q ≤ k → v ≡ g) →
    r (min (k + 1) q) + g * (k + 1 - q) ≡ r (min k q) + g * (k - q) + v
piece_more r g q k v below above = elim (dec_lt k q) [ yes h ↦ early h | no h ↦ late (omega arith) ]
  where
    early : k < q → r (min (k + 1) q) + g * (k + 1 - q) ≡ r (min k q) + g * (k - q) + v
    early h =
        let a : min (k + 1) q ≡ k + 1 = omega arith in
        let b : min k q ≡ k = omega arith in
        let d : k + 1 - q ≡ 0 = omega arith in
        let e : k - q ≡ 0 = omega arith in
        rw (a, b, d, e, below h) (omega arith)

    late : q ≤ k → r (min (k + 1) q) + g * (k + 1 - q) ≡ r (min k q) + g * (k - q) + v
    late h =
        let a : min (k + 1) q ≡ q = omega arith in
        let b : min k q ≡ q = omega arith in
        let d : k + 1 - q ≡ (k - q) + 1 = omega arith in
        rw (a, b, d, above h) (omega arith)

way_more_top : (s a g q k : ℕ) → IsTop s a g q → way s a g (Some q) (k + 1) ≡ way s a g (Some q) k + min (s + a * k) g
way_more_top s a g q k t =
    piece_more (ramp s a) g q k (min (s + a * k) g) (λ h. let b = t.before k h in ramp_more s a k ∙ omega arith)
    (λ h. let m : a * q ≤ a * k = mul-le-mul_left a h in let r = t.reached in omega arith)

top_0 : (s a g : ℕ) → g ≤ s → IsTop s a g 0
top_0 s a g h = record { reached = omega arith; before = λ j b. omega arith }

-- the least number of gains with which the speed is reached
top_gain : (s a g : ℕ) → 0 < a → s < g → IsTop s a g (ceil_div (g - s) a)
top_gain s a g h l = record {
  reached = omega arith;
  before = λ j b. let m : a * (j + 1) ≤ a * ceil_div (g - s) a = mul-le-mul_left a (omega arith) in omega arith;
}

-- The way grows by the speed, which grows by a in each step up to g.
pub way_more : (s a g k : ℕ) → s ≤ g → way s a g (top_step s a g) (k + 1) ≡ way s a g (top_step s a g) k + min (s + a * k) g
way_more s a g k h = elim (dec_lt s g) [ yes l ↦ gaining l | no n ↦ let e : leb g s ≡ true = le-leb g s (omega arith) in rw e (way_more_top s a g 0 k (top_0 s a g (omega arith))) ]
  where
    gaining : s < g → way s a g (top_step s a g) (k + 1) ≡ way s a g (top_step s a g) k + min (s + a * k) g
    gaining l =
        let e : leb g s ≡ false = lt-leb g s l in
        elim (dec_lt 0 a) [
          | yes b ↦ let n : eqb a 0 ≡ false = ne_eqb a 0 (omega arith) in rw (e, n) (way_more_top s a g (ceil_div (g - s) a) k (top_gain s a g b l))
          | no b ↦ let z : eqb a 0 ≡ true = eq-eqb a 0 (omega arith) in rw (e, z) (ramp_more s a k ∙ steady (omega arith))
        ]
      where
        steady : a ≡ 0 → ramp s a k + (s + a * k) ≡ ramp s a k + min (s + a * k) g
        steady z = let t : s + a * k ≡ s = rw z (omega arith) in let m : min (s + a * k) g ≡ s + a * k = omega arith in rw m refl

-- A vehicle's front moves on by its speed.
pub front_more : (p : Params) (fast : Bool) (k : ℕ) → p.speed ≤ p.max_speed → front p fast (k + 1) ≡ front p fast k + min (p.speed + gain p fast * k) p.max_speed
front_more p fast k h = way_more p.speed (gain p fast) p.max_speed k h

-- a way that grows by a speed at least is past a length at a step below the bound
least_steps : (way : ℕ → ℕ) (length speed : ℕ) → 0 < speed → ((k : ℕ) → speed * k ≤ way k) → IsLeast (λ k. nat_lt length (way k)) (unwrap_or (least_below (length / speed + 2) (λ k. nat_lt length (way k))) 0)
least_steps way length speed h grows =
    let at : length < way (length / speed + 1) = past in
    let r = least_below_found (length / speed + 2) (λ k. nat_lt length (way k)) (length / speed + 1) (omega arith) (lt-ltb length (way (length / speed + 1)) at) in
    rw r.1 r.3
  where
    past : length < way (length / speed + 1)
    past = let g = grows (length / speed + 1) in omega arith

-- The front moves on by the first speed at least.
pub front-ge : (p : Params) (fast : Bool) (k : ℕ) → p.speed ≤ p.max_speed → p.speed * k ≤ front p fast k
front-ge p fast zero h = omega arith
front-ge p fast (suc k) h = let e = front_more p fast k h in let r = front-ge p fast k h in rw (← add-one k) (omega arith)

-- The number of crossing steps is the least k at which the rear is past the path's end.
pub crossing_steps-least : (i : Intersection) (p : Params) (fast : Bool) → 0 < p.speed → p.speed ≤ p.max_speed → IsLeast (λ k. nat_lt (path_length i p + p.length) (front p fast k)) (crossing_steps i p fast)
crossing_steps-least i p fast h l = least_steps (front p fast) (path_length i p + p.length) p.speed h (λ k. front-ge p fast k l)

way_zero : (s a g : ℕ) (o : Option ℕ) → way s a g o 0 ≡ 0
way_zero s a g None = omega arith
way_zero s a g (Some q) = let m : min 0 q ≡ 0 = omega arith in let d : 0 - q ≡ 0 = omega arith in rw (m, d) (omega arith)

pub front_zero : (p : Params) (fast : Bool) → front p fast 0 ≡ 0
front_zero p fast = way_zero p.speed (gain p fast) p.max_speed (top_step p.speed (gain p fast) p.max_speed)

pub front_sum : (p : Params) (fast : Bool) (k : ℕ) → p.speed ≤ p.max_speed → front p fast k ≡ sum_below k (speed_in p fast)
front_sum p fast zero h = front_zero p fast
front_sum p fast (suc k) h = rw (← add-one k, front_more p fast k h, front_sum p fast k h) refl
