-- The fields of a crossing, and its steps at constant speed.
use Rattle.std.proofs.Common.{◌≡◌, ℕ, zero, suc, ◌+◌, ◌*◌, ◌/◌, ◌<◌, ◌≤◌, Bool, false, min, Some, None, arith, add-one, nat_lt, lt-ltb, le-ltb, sym}
use Rattle.std.specs.Option.{option_or}
use Rattle.std.specs.Prelude.{if◌then◌else◌}
use Rattle.std.proofs.Math.Decide.{dec_lt}
use Rattle.std.proofs.lemmas.Bool.{ltb-false, ltb-true}
use Rattle.std.proofs.Math.Nat.{div-mul-le_self, mul-le-mul_left}
use Rattle.aim_messages.specs.declared.messages.Params.{Params}
use Rattle.aim_messages.specs.declared.replies.Field.TheVariants as field
use Rattle.aim_geometry.proofs.BoundedLemmas.{IsLeast}
use Rattle.aim_layout.specs.Intersection.{Intersection}
use Rattle.aim_rules.specs.Motion.{front}
use Rattle.aim_rules.specs.Footprint.{crossing_steps, path_length}
use Rattle.aim_rules.specs.Bad.{bad, needs_too_many_spans}
use Rattle.aim_rules.proofs.MotionLemmas.{front_zero, front_more, front-ge, crossing_steps-least}
use Rattle.aim_footprint.specs.Fields.{bad_crossing}

is_least : (test : ℕ → Bool) (a b : ℕ) → IsLeast test a → IsLeast test b → a ≡ b
is_least test a b x y = elim (dec_lt a b) [
  | yes l ↦ absurd (let f = y.first a l in let t = x.passes in cc)
  | no n ↦ elim (dec_lt b a) [
    | yes l ↦ absurd (let f = x.first b l in let t = y.passes in cc)
    | no o ↦ omega arith
  ]
]

-- the number of steps is k, where k is the first at which the rear is past the path's end
pub steps_are : (i : Intersection) (p : Params) (fast : Bool) (k : ℕ) → 0 < p.speed → p.speed ≤ p.max_speed →
    ((j : ℕ) → j < k → nat_lt (path_length i p + p.length) (front p fast j) ≡ false) → path_length i p + p.length < front p fast k → k ≡ crossing_steps i p fast
steps_are i p fast k a b none past =
    is_least (λ k. nat_lt (path_length i p + p.length) (front p fast k)) k (crossing_steps i p fast) (record { passes = lt-ltb _ _ past; first = none }) (crossing_steps-least i p fast a b)

-- or the most that they can be, where none was so far
pub steps_most : (i : Intersection) (p : Params) (fast : Bool) (k most : ℕ) → most ≤ k → crossing_steps i p fast ≤ most → 0 < p.speed → p.speed ≤ p.max_speed → k ≤ most →
    ((j : ℕ) → j < k → nat_lt (path_length i p + p.length) (front p fast j) ≡ false) → k ≡ crossing_steps i p fast
steps_most i p fast k most a b s t l none = elim (dec_lt (crossing_steps i p fast) k) [
  | yes h ↦ absurd (let f = none (crossing_steps i p fast) h in let g = (crossing_steps-least i p fast s t).passes in cc)
  | no h ↦ omega arith
]

front_steady : (p : Params) (k : ℕ) → p.speed ≤ p.max_speed → front p false k ≡ p.speed * k
front_steady p zero h = let z = front_zero p false in let e : p.speed * 0 ≡ 0 = omega arith in rw e z
front_steady p (suc k) h =
    let e = front_more p false k h in
    let r = front_steady p k h in
    rw (← add-one k) (let z : 0 * k ≡ 0 = omega arith in let m : min (p.speed + 0 * k) p.max_speed ≡ p.speed = omega arith in omega arith)

still_short : (d v j : ℕ) → j < d / v + 1 → v * j ≤ d
still_short d v j l = let m : v * j ≤ v * (d / v) = mul-le-mul_left v (omega arith) in let e = div-mul-le_self d v in omega arith

then_past : (d v : ℕ) → 0 < v → d < v * (d / v + 1)
then_past d v h = omega arith

-- at constant speed the number of steps is a quotient
pub steps_steady : (i : Intersection) (p : Params) → 0 < p.speed → p.speed ≤ p.max_speed → crossing_steps i p false ≡ (path_length i p + p.length) / p.speed + 1
steps_steady i p a b =
    sym (steps_are i p false ((path_length i p + p.length) / p.speed + 1) a b
    (λ j l. let e = front_steady p j b in let s = still_short (path_length i p + p.length) p.speed j l in le-ltb _ _ (rw e s))
    (rw (front_steady p ((path_length i p + p.length) / p.speed + 1) b) (then_past (path_length i p + p.length) p.speed a)))

-- the fast trial has no more steps
pub steps_fewer : (i : Intersection) (p : Params) (fast : Bool) → 0 < p.speed → p.speed ≤ p.max_speed → crossing_steps i p fast ≤ crossing_steps i p false
steps_fewer i p fast a b = elim (dec_lt (crossing_steps i p false) (crossing_steps i p fast)) [
  | no n ↦ omega arith
  | yes l ↦ absurd (
      let f = (crossing_steps-least i p fast a b).first (crossing_steps i p false) l in
      let short = ltb-false (path_length i p + p.length) (front p fast (crossing_steps i p false)) f in
      let past = ltb-true (path_length i p + p.length) (front p false (crossing_steps i p false)) (crossing_steps-least i p false a b).passes in
      let e = front_steady p (crossing_steps i p false) b in
      let g = front-ge p fast (crossing_steps i p false) b in
      omega arith)
]

-- the fields of a request are those of its crossing, and then the spans
pub fields : (i : Intersection) (p : Params) → bad i p ≡ option_or (bad_crossing i p) (if needs_too_many_spans i p then Some field.Spans else None)
fields i p = grind arith
