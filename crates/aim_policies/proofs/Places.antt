-- The places and the steps of a policy's phases, in a walk over them.
use Rattle.std.proofs.Common.{◌≡◌, ℕ, ◌+◌, ◌-◌, ◌*◌, ◌<◌, ◌≤◌, Bool, ◌||◌, List, length, take, get_or, set, slice_get, Option, Some, None, Fits, w32, w64, arith, refl, sym, ◌∙◌, ap}
use Rattle.std.specs.Prelude.{option_map, option_and_then}
use Rattle.std.proofs.lemmas.List.{take_all}
use Rattle.std.proofs.lemmas.Option.{slice_get-get_or, slice_get_past}
use Rattle.aim_layout.specs.declared.policies.Phase.{Phase}
use Rattle.aim_layout.specs.Intersection.{Intersection, Policy}
use Rattle.aim_layout.specs.Policies.{has_lane}
use Rattle.aim_layout.specs.Valid.{IsValid}
use Rattle.aim_rules.specs.Lights.{round}
use Rattle.aim_policies.specs.Plans.{AreInRange, phases_of, lights_of}
use Rattle.aim_policies.proofs.Rounds.{phase_range, has_lane-none}
use Rattle.aim_policies.proofs.Phases.{phase_read, count_read, most_read, taken_more, round_more}

-- one of at most 16 places
pub place_fits : (n count : ℕ) → n < count → count ≤ 16 → Fits w64 n
place_fits n count l most = omega arith

pub offset_fits : (n count : ℕ) → n < count → count ≤ 16 → Fits w64 (n * 12)
offset_fits n count l most = omega arith

pub place_below : (n count : ℕ) → n < count → count ≤ 16 → n < 16
place_below n count l most = omega arith

pub fewer_left : (n count : ℕ) → n < count → count - (n + 1) < count - n
fewer_left n count l = omega arith

pub zero_most : 0 ≤ 131072 * 0
zero_most = omega arith

-- the policy has a phase at a place below their number
pub phase_there : (o : Option Policy) (n count : ℕ) → count ≡ length (phases_of o) → n < count → option_and_then (λ p. slice_get p.phases n) o ≡ None → ⊥
phase_there None n count same l h = absurd (omega arith)
phase_there (Some p) n count same l h = let q = slice_get-get_or p.phases n (record { red = 0; green = 0; lanes = 0 }) (omega arith) in absurd (cc)

-- the steps of one phase, and of those up to it
pub steps_fit : (o : Option Policy) (n : ℕ) (f : Phase) → AreInRange (phases_of o) → option_and_then (λ p. slice_get p.phases n) o ≡ Some f → Fits w32 (f.red + f.green)
steps_fit o n f range read = let r = range n f (phase_read o n f read) in omega (arith, r.red, r.green)

pub round_fits : (o : Option Policy) (n count steps : ℕ) (f : Phase) → AreInRange (phases_of o) → option_and_then (λ p. slice_get p.phases n) o ≡ Some f →
    n < count → count ≤ 16 → steps ≤ 131072 * n → Fits w32 (steps + (f.red + f.green))
round_fits o n count steps f range read l most m = let r = range n f (phase_read o n f read) in omega (arith, r.red, r.green)

pub round_most : (o : Option Policy) (n steps : ℕ) (f : Phase) → AreInRange (phases_of o) → option_and_then (λ p. slice_get p.phases n) o ≡ Some f →
    steps ≤ 131072 * n → steps + (f.red + f.green) ≤ 131072 * (n + 1)
round_most o n steps f range read m = let r = range n f (phase_read o n f read) in omega (arith, r.red, r.green)

pub round_next : (o : Option Policy) (n steps : ℕ) (f : Phase) → option_and_then (λ p. slice_get p.phases n) o ≡ Some f →
    steps ≡ round (take n (phases_of o)) → steps + (f.red + f.green) ≡ round (take (n + 1) (phases_of o))
round_next o n steps f read same = ap (λ s. s + (f.red + f.green)) same ∙ sym (round_more (phases_of o) n f (phase_read o n f read))

pub taken_next : (o : Option Policy) (phases : List Phase) (n count : ℕ) (f : Phase) → option_and_then (λ p. slice_get p.phases n) o ≡ Some f →
    n < count → count ≤ 16 → length phases ≡ 16 → take n phases ≡ take n (phases_of o) → take (n + 1) (set phases n f) ≡ take (n + 1) (phases_of o)
taken_next o phases n count f read l most long same = taken_more phases (phases_of o) n f (omega arith) same (phase_read o n f read)

-- the phases are all taken
pub all_taken : (phases all : List Phase) (n count : ℕ) → n ≤ count → count ≤ n → count ≡ length all → take n phases ≡ take n all → take count phases ≡ all
all_taken phases all n count l m same taken =
    let e : n ≡ count = omega arith in
    ap (λ k. take k phases) (sym e) ∙ taken ∙ take_all n all (omega arith)

pub all_round : (all : List Phase) (n count steps : ℕ) → count ≤ n → count ≡ length all → steps ≡ round (take n all) → steps ≡ round all
all_round all n count steps m same taken = taken ∙ ap round (take_all n all (omega arith))

-- there is no policy past their number
pub past_read : (i : Intersection) (k count : ℕ) → count ≡ length i.policies → count ≤ k → None ≡ lights_of (slice_get i.policies k)
past_read i k count same l = ap lights_of (sym (slice_get_past i.policies k (omega arith)))

pub policy_there : (i : Intersection) (k count : ℕ) → count ≡ length i.policies → k < count → k < length i.policies
policy_there i k count same l = omega arith

pub few_read : (i : Intersection) (k n : ℕ) → IsValid i → option_map (λ p. length p.phases) (slice_get i.policies k) ≡ Some n → n ≤ 16
few_read i k n valid h =
    let count = count_read (slice_get i.policies k) n h in
    let most = most_read i k valid in
    omega arith

-- the steps at which a phase's green begins and ends, and their repetition in the next round
pub begin_fits : (ps : List Phase) (k end red : ℕ) (d : Phase) → AreInRange ps → length ps ≤ 16 → k < length ps → end ≤ 131072 * k → red ≡ (get_or ps k d).red → Fits w64 (end + red)
begin_fits ps k end red d range few l m e = let r = phase_range ps k d range l in omega (arith, r.red)

pub end_fits : (ps : List Phase) (k end red green : ℕ) (d : Phase) → AreInRange ps → length ps ≤ 16 → k < length ps → end ≤ 131072 * k → red ≡ (get_or ps k d).red → green ≡ (get_or ps k d).green →
    Fits w64 (end + red + green)
end_fits ps k end red green d range few l m e f = let r = phase_range ps k d range l in omega (arith, r.red, r.green)

pub later_fits : (ps : List Phase) (k end red turn : ℕ) (d : Phase) → AreInRange ps → length ps ≤ 16 → k < length ps → end ≤ 131072 * k → red ≡ (get_or ps k d).red → turn < 4294967296 →
    end + red + turn < 18446744073709551616
later_fits ps k end red turn d range few l m e t = let r = phase_range ps k d range l in omega (arith, r.red)

pub end_most : (ps : List Phase) (k end red green : ℕ) (d : Phase) → AreInRange ps → k < length ps → end ≤ 131072 * k → red ≡ (get_or ps k d).red → green ≡ (get_or ps k d).green →
    end + red + green ≤ 131072 * (k + 1)
end_most ps k end red green d range l m e f = let r = phase_range ps k d range l in omega (arith, r.red, r.green)

-- no lane is met yet
pub none_met : (lane : ℕ) (b : Bool) → (has_lane 0 lane || b) ≡ b
none_met lane b = rw (has_lane-none lane) refl
