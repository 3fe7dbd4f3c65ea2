-- How far the front of a vehicle that accelerates is after some steps, by which its crossing is too long or not.
use Rattle.std.proofs.Common.{◌≡◌, ℕ, ◌+◌, ◌-◌, ◌*◌, ◌/◌, ◌%◌, ◌<◌, ◌≤◌, Bool, true, false, min, arith, refl, sym, ◌∙◌, nat_lt, leb, eqb, le-ltb, lt-ltb}
use Rattle.std.specs.Prelude.{nat_le}
use Rattle.std.proofs.Math.Decide.{dec_lt}
use Rattle.std.proofs.Math.Nat.{mul-le-mul, mul-le-mul_left}
use Rattle.std.proofs.lemmas.Bool.{and_parts, le-leb, lt-leb, ltb-false, ltb-true, ne_eqb}
use Rattle.std.proofs.lemmas.Grind.{div_ceil_times}
use Rattle.aim_messages.specs.declared.messages.Params.{Params}
use Rattle.aim_geometry.specs.Bounded.{ceil_div}
use Rattle.aim_layout.specs.Intersection.{Intersection}
use Rattle.aim_rules.specs.Motion.{front, ramp}
use Rattle.aim_rules.specs.Footprint.{crossing_steps, path_length}
use Rattle.aim_rules.specs.Trials.{is_fast_made}
use Rattle.aim_rules.proofs.MotionLemmas.{crossing_steps-least}
use Rattle.aim_footprint.proofs.Reached.{front_rises}

-- the two ways to say a quotient rounded up
ceil_same : (a b : ℕ) → 0 < b → a / b + min 1 (a % b) ≡ ceil_div a b
ceil_same a b some =
    let t = div_ceil_times a b some in
    let x = a / b + min 1 (a % b) in
    let y = (a + (b - 1)) / b in
    elim (dec_lt x y) [
      | yes l ↦ absurd (let m : b * (x + 1) ≤ b * y = mul-le-mul_left b (omega arith) in omega arith)
      | no n ↦ elim (dec_lt y x) [
        | yes l ↦ absurd (let m : b * (y + 1) ≤ b * x = mul-le-mul_left b (omega arith) in omega arith)
        | no o ↦ omega arith
      ]
    ]

-- a crossing has more steps than some where its rear is on the path yet after them
pub more_steps : (i : Intersection) (p : Params) (fast : Bool) (most : ℕ) → 0 < p.speed → p.speed ≤ p.max_speed →
    nat_lt most (crossing_steps i p fast) ≡ nat_le (front p fast most) (path_length i p + p.length)
more_steps i p fast most a b =
    let least = crossing_steps-least i p fast a b in
    let steps = crossing_steps i p fast in
    let long = path_length i p + p.length in
    elim (dec_lt most steps) [
      | yes l ↦ (let f = ltb-false long (front p fast most) (least.first most l) in lt-ltb most steps l ∙ sym (le-leb (front p fast most) long f))
      | no n ↦ (
          let past = ltb-true long (front p fast steps) least.passes in
          let rises = front_rises p fast steps most b (omega arith) in
          let x : nat_lt most steps ≡ false = le-ltb most steps (omega arith) in
          let y : nat_le (front p fast most) long ≡ false = lt-leb (front p fast most) long (omega arith) in
          x ∙ sym y)
    ]

-- the way of a vehicle that accelerates for some steps and goes on at its greatest speed
front_made : (p : Params) (k : ℕ) → 0 < p.accel → p.speed < p.max_speed →
    front p true k ≡ ramp p.speed p.accel (min k (ceil_div (p.max_speed - p.speed) p.accel)) + p.max_speed * (k - ceil_div (p.max_speed - p.speed) p.accel)
front_made p k some more =
    let a : leb p.max_speed p.speed ≡ false = lt-leb p.max_speed p.speed more in
    let b : eqb p.accel 0 ≡ false = ne_eqb p.accel 0 (omega arith) in
    rw (a, b) refl

-- what the numbers of a fast trial that is made say
pub made_parts : (p : Params) → is_fast_made p ≡ true → (0 < p.accel) × (p.speed < p.max_speed)
made_parts p made = let m = and_parts (nat_lt 0 p.accel) (nat_lt p.speed p.max_speed) made in (ltb-true 0 p.accel m.0, ltb-true p.speed p.max_speed m.1)

-- where the front is after k steps, by how long the vehicle gains
pub front_after : (p : Params) (k quotient gaining : ℕ) → is_fast_made p ≡ true → quotient ≡ (p.max_speed - p.speed) / p.accel + min 1 ((p.max_speed - p.speed) % p.accel) → gaining ≡ min quotient k →
    p.speed * gaining + p.accel * (gaining * (gaining - 1) / 2) + p.max_speed * (k - gaining) ≡ front p true k
front_after p k quotient gaining made is least =
    let m = made_parts p made in
    let same : quotient ≡ ceil_div (p.max_speed - p.speed) p.accel = is ∙ ceil_same (p.max_speed - p.speed) p.accel m.0 in
    let few : min k quotient ≡ gaining = omega arith in
    let rest : k - quotient ≡ k - gaining = omega arith in
    sym (front_made p k m.0 m.1 ∙ rw (← same, few, rest) refl)

-- the parts of the way are small enough to be added
pub parts_fit : (speed accel greatest gaining before : ℕ) → speed ≤ 4000 → greatest ≤ 4000 → accel ≤ 1000 → gaining ≤ 2048 → before ≤ 2048 →
    (speed * gaining ≤ 8192000) × (accel * (gaining * before / 2) ≤ 2097152000) × (greatest * (2048 - gaining) ≤ 8192000)
parts_fit speed accel greatest gaining before a b c d e =
    let square : gaining * before ≤ 2048 * 2048 = mul-le-mul d e in
    let half : gaining * before / 2 ≤ 2097152 = omega (arith, square) in
    let rest : 2048 - gaining ≤ 2048 = omega arith in
    (mul-le-mul a d, mul-le-mul c half, mul-le-mul b rest)
