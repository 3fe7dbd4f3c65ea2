-- The offsets of a window, and the greens of a round that it meets.
use Rattle.std.proofs.Common.{◌≡◌, ℕ, suc, ◌+◌, ◌-◌, ◌*◌, ◌/◌, ◌%◌, ◌<◌, ◌≤◌, ◌⊎◌, inl, inr, Bool, true, false, ◌&&◌, ◌||◌, List, [], ◌∷◌, length, get_or, Some, arith, refl, sym, ◌∙◌, ap, subst, max, nat_lt, lt-ltb, le-ltb, zero-add, drop, add-one}
use Rattle.std.specs.Prelude.{nat_le, if◌then◌else◌}
use Rattle.std.specs.List.{list_any, range_with_len}
use Rattle.std.proofs.Math.Decide.{dec_lt}
use Rattle.std.proofs.Math.Nat.{mul-le-mul_left}
use Rattle.std.proofs.lemmas.Bool.{and_parts}
use Rattle.std.proofs.lemmas.Nat.{mod-mul-add, mod_below, div-add-mod'}
use Rattle.std.proofs.lemmas.Nat.Bits.{bit_at-zero}
use Rattle.std.proofs.lemmas.List.Folds.{Any-from_list_any, list_any_at}
use Rattle.std.proofs.Math.Seq.{drop-cons}
use Rattle.std.proofs.lemmas.List.{drop_all}
use Rattle.std.proofs.lemmas.List.Sums.{sum_by-cons}
use Rattle.std.proofs.lemmas.List.FromFn.{length-range_with_len, get_or-range_with_len}
use Rattle.std.proofs.lemmas.Option.{slice_get-get_or}
use Rattle.aim_layout.specs.declared.policies.Phase.{Phase}
use Rattle.aim_layout.specs.Intersection.{Policy}
use Rattle.aim_layout.specs.Policies.{has_lane}
use Rattle.aim_rules.specs.Lights.{lit, round, green_lanes}
use Rattle.aim_rules.proofs.TestLemmas.{is_less, not_less, is_most, le_true}
use Rattle.aim_policies.specs.Plans.{IsInRange, AreInRange, IsPlan, is_green_within}
use Rattle.aim_policies.specs.Windows.{is_met}

-- equal tests, by two implications
pub both_ways : (a b : Bool) → (a ≡ true → b ≡ true) → (b ≡ true → a ≡ true) → a ≡ b
both_ways true b f g = sym (f refl)
both_ways false true f g = g refl
both_ways false false f g = refl

pub range_found : (a n : ℕ) (p : ℕ → Bool) → list_any p (range_with_len a n) ≡ true → (s : ℕ) × (a ≤ s) × (s < a + n) × (p s ≡ true)
range_found a n p h =
    let f = Any-from_list_any p (range_with_len a n) h in
    let l : f.0 < n = omega (arith, length-range_with_len a n, f.2) in
    let e : f.1 ≡ a + f.0 = sym f.3 ∙ get_or-range_with_len a n f.0 f.1 l in
    (f.1, omega arith, omega arith, f.4)

pub range_has : (a n : ℕ) (p : ℕ → Bool) (s : ℕ) → a ≤ s → s < a + n → p s ≡ true → list_any p (range_with_len a n) ≡ true
range_has a n p s from to h =
    let l : s - a < length (range_with_len a n) = omega (arith, length-range_with_len a n) in
    let m : s - a < n = omega arith in
    let e : a + (s - a) ≡ s = omega arith in
    list_any_at p (range_with_len a n) (s - a) 0 l (rw (get_or-range_with_len a n (s - a) 0 m, e) h)

-- no lane is in the empty set
pub has_lane-none : (lane : ℕ) → has_lane 0 lane ≡ false
has_lane-none lane = rw (bit_at-zero lane) refl

-- an offset of the round is in a window that begins in it
abbrev Hit : ℕ → ℕ → ℕ → ℕ → Type 0
Hit from to turn y = ((from ≤ y) × (y ≤ to)) ⊎ (y + turn ≤ to)

-- the offsets of a window, in the round
window_hit : (first last turn o : ℕ) → 0 < turn → first ≤ o → o ≤ last → Hit (first % turn) (first % turn + (last - first)) turn (o % turn)
window_hit first last turn o some a b =
    let d = div-add-mod' first turn in
    let e = div-add-mod' o turn in
    let below : first % turn < turn = mod_below first turn some in
    let under : o % turn < turn = mod_below o turn some in
    elim (dec_lt (first / turn) (o / turn)) [
      | yes l ↦ inr (omega (arith, mul-le-mul_left turn l))
      | no l ↦ elim (dec_lt (o / turn) (first / turn)) [
        | yes m ↦ absurd (omega (arith, mul-le-mul_left turn m))
        | no m ↦ (let same : o / turn ≡ first / turn = omega arith in let e' = rw same at e in inl (omega arith, omega arith))
      ]
    ]

hit_window : (first last turn y : ℕ) → y < turn → first ≤ last → Hit (first % turn) (first % turn + (last - first)) turn y → (o : ℕ) × (first ≤ o) × (o ≤ last) × (o % turn ≡ y)
hit_window first last turn y l h (inl (a, b)) =
    let d = div-add-mod' first turn in
    (first / turn * turn + y, omega arith, omega arith, mod-mul-add (first / turn) turn y l)
hit_window first last turn y l h (inr b) =
    let d = div-add-mod' first turn in
    let below : first % turn < turn = mod_below first turn (omega arith) in
    ((first / turn + 1) * turn + y, omega arith, omega arith, mod-mul-add (first / turn + 1) turn y l)

pub round-cons : (f : Phase) (fs : List Phase) → round (f ∷ fs) ≡ f.red + f.green + round fs
round-cons f fs = sum_by-cons (λ f. f.red + f.green) f fs

-- an offset in the round at which the lane is green meets the window
met_some : (from to turn end : ℕ) (ps : List Phase) (lane d : ℕ) → Hit from to turn (end + d) → has_lane (lit ps d) lane ≡ true → is_met from to turn end ps lane ≡ true
met_some from to turn end [] lane d hit green = absurd (let n = has_lane-none lane in cc)
met_some from to turn end (p ∷ ps) lane d hit green = go (met_some from to turn (end + p.red + p.green) ps lane (d - (p.red + p.green))) (nat_lt d p.red) (nat_lt d (p.red + p.green)) refl refl green
  where
    left : (b c : Bool) → b ≡ true → (b || c) ≡ true
    left true c e = refl
    left false c e = absurd (cc)

    right : (b c : Bool) → c ≡ true → (b || c) ≡ true
    right true c e = refl
    right false c e = e

    early : (e : ℕ) → (d < p.red + p.green) → (p.red ≤ d) → Hit from to turn (end + d) →
        (nat_le (end + p.red) to && nat_lt from (end + p.red + p.green) || nat_le (end + p.red + turn) to) ≡ true
    early e l m (inl (a, b)) = left (nat_le (end + p.red) to && nat_lt from (end + p.red + p.green)) (nat_le (end + p.red + turn) to)
        (rw (le_true (end + p.red) to (omega arith), lt-ltb from (end + p.red + p.green) (omega arith)) refl)
    early e l m (inr b) = right (nat_le (end + p.red) to && nat_lt from (end + p.red + p.green)) (nat_le (end + p.red + turn) to) (le_true (end + p.red + turn) to (omega arith))

    go : (Hit from to turn (end + p.red + p.green + (d - (p.red + p.green))) → has_lane (lit ps (d - (p.red + p.green))) lane ≡ true → is_met from to turn (end + p.red + p.green) ps lane ≡ true) →
        (b c : Bool) → nat_lt d p.red ≡ b → nat_lt d (p.red + p.green) ≡ c → has_lane (if b then 0 else if c then p.lanes else lit ps (d - (p.red + p.green))) lane ≡ true → is_met from to turn end (p ∷ ps) lane ≡ true
    go later true c e f h = absurd (let n = has_lane-none lane in cc)
    go later false true e f h =
        let m = not_less d p.red e in
        let l = is_less d (p.red + p.green) f in
        left ((nat_le (end + p.red) to && nat_lt from (end + p.red + p.green) || nat_le (end + p.red + turn) to) && has_lane p.lanes lane) (is_met from to turn (end + p.red + p.green) ps lane)
        (rw (early 0 l m hit, h) refl)
    go later false false e f h =
        let m = not_less d (p.red + p.green) f in
        let same : end + p.red + p.green + (d - (p.red + p.green)) ≡ end + d = omega arith in
        right ((nat_le (end + p.red) to && nat_lt from (end + p.red + p.green) || nat_le (end + p.red + turn) to) && has_lane p.lanes lane) (is_met from to turn (end + p.red + p.green) ps lane)
        (later (rw same hit) h)

-- where the window meets a green, some offset in the round is in both
met_found : (from to turn end : ℕ) (ps : List Phase) (lane : ℕ) → from ≤ to → AreInRange ps → is_met from to turn end ps lane ≡ true →
    (d : ℕ) × (d < round ps) × (has_lane (lit ps d) lane ≡ true) × Hit from to turn (end + d)
met_found from to turn end [] lane l each h = absurd (cc)
met_found from to turn end (p ∷ ps) lane l each h = go (met_found from to turn (end + p.red + p.green) ps lane l (λ j f s. each (suc j) f s)) ((nat_le (end + p.red) to && nat_lt from (end + p.red + p.green) || nat_le (end + p.red + turn) to) && has_lane p.lanes lane) refl h
  where
    some : 0 < p.green
    some = (each 0 p refl).some_green

    lights : (d : ℕ) → p.red ≤ d → d < p.red + p.green → has_lane p.lanes lane ≡ true → has_lane (lit (p ∷ ps) d) lane ≡ true
    lights d m k e = rw (le-ltb d p.red m, lt-ltb d (p.red + p.green) k) e

    near : (b c : Bool) → (nat_le (end + p.red) to && nat_lt from (end + p.red + p.green)) ≡ b → nat_le (end + p.red + turn) to ≡ c → (b || c) ≡ true → has_lane p.lanes lane ≡ true →
        (d : ℕ) × (d < round (p ∷ ps)) × (has_lane (lit (p ∷ ps) d) lane ≡ true) × Hit from to turn (end + d)
    near true c e f o g =
        let parts = and_parts (nat_le (end + p.red) to) (nat_lt from (end + p.red + p.green)) e in
        let a = is_most (end + p.red) to parts.0 in
        let b = is_less from (end + p.red + p.green) parts.1 in
        let m : p.red ≤ max p.red (from - end) = omega arith in
        let s = some in
        let k : max p.red (from - end) < p.red + p.green = omega arith in
        (max p.red (from - end), omega (arith, round-cons p ps), lights (max p.red (from - end)) m k g, inl (omega arith, omega arith))
    near false true e f o g = let s = some in (p.red, omega (arith, round-cons p ps), lights p.red (omega arith) (omega arith) g, inr (is_most (end + p.red + turn) to f))
    near false false e f o g = absurd (cc)

    go : (is_met from to turn (end + p.red + p.green) ps lane ≡ true → (d : ℕ) × (d < round ps) × (has_lane (lit ps d) lane ≡ true) × Hit from to turn (end + p.red + p.green + d)) →
        (b : Bool) → ((nat_le (end + p.red) to && nat_lt from (end + p.red + p.green) || nat_le (end + p.red + turn) to) && has_lane p.lanes lane) ≡ b → (b || is_met from to turn (end + p.red + p.green) ps lane) ≡ true →
        (d : ℕ) × (d < round (p ∷ ps)) × (has_lane (lit (p ∷ ps) d) lane ≡ true) × Hit from to turn (end + d)
    go rest true e o =
        let parts = and_parts (nat_le (end + p.red) to && nat_lt from (end + p.red + p.green) || nat_le (end + p.red + turn) to) (has_lane p.lanes lane) e in
        near (nat_le (end + p.red) to && nat_lt from (end + p.red + p.green)) (nat_le (end + p.red + turn) to) refl refl parts.0 parts.1
    go rest false e o =
        let later = rest o in
        let d = p.red + p.green + later.0 in
        let m : p.red ≤ d = omega arith in
        let k : p.red + p.green ≤ d = omega arith in
        let same : d - (p.red + p.green) ≡ later.0 = omega arith in
        let place : end + d ≡ end + p.red + p.green + later.0 = omega arith in
        (d, omega (arith, later.1, round-cons p ps), rw (le-ltb d p.red m, le-ltb d (p.red + p.green) k, same) later.2, rw place later.3)

-- a round has steps, and not too many
pub round-some : (p : Policy) → IsPlan p → 0 < round p.phases
round-some p plan = go p.phases plan.some plan.each
  where
    go : (ps : List Phase) → 0 < length ps → AreInRange ps → 0 < round ps
    go [] l each = absurd (omega arith)
    go (f ∷ fs) l each = let s = (each 0 f refl).some_green in omega (arith, round-cons f fs)

pub round-most : (ps : List Phase) → AreInRange ps → round ps ≤ 131072 * length ps
round-most [] each = omega arith
round-most (f ∷ fs) each = let s = each 0 f refl in let m = round-most fs (λ j g e. each (suc j) g e) in omega (arith, s.red, s.green, round-cons f fs)

-- the lanes whose greens meet the window are those that are green at some offset of it
pub met_within : (p : Policy) (first last lane : ℕ) → IsPlan p → first ≤ last →
    is_met (first % round p.phases) (first % round p.phases + (last - first)) (round p.phases) 0 p.phases lane ≡ is_green_within p first last lane
met_within p first last lane plan l = both_ways (is_met from to turn 0 p.phases lane) (is_green_within p first last lane) found some
  where
    turn : ℕ
    turn = round p.phases

    from : ℕ
    from = first % round p.phases

    to : ℕ
    to = first % round p.phases + (last - first)

    lit_shown : (o d : ℕ) → o % round p.phases ≡ d → has_lane (lit p.phases d) lane ≡ true → has_lane (green_lanes (Some p) o) lane ≡ true
    lit_shown o d e h = rw (plan.lights, e) h

    found : is_met (first % round p.phases) (first % round p.phases + (last - first)) (round p.phases) 0 p.phases lane ≡ true → is_green_within p first last lane ≡ true
    found h =
        let d = met_found (first % round p.phases) (first % round p.phases + (last - first)) (round p.phases) 0 p.phases lane (omega arith) plan.each h in
        let o = hit_window first last (round p.phases) d.0 d.1 l (rw zero-add at d.3) in
        range_has first (last + 1 - first) (λ o. has_lane (green_lanes (Some p) o) lane) o.0 o.1 (omega arith) (lit_shown o.0 d.0 o.3 d.2)

    shown : (o : ℕ) → has_lane (green_lanes (Some p) o) lane ≡ true → has_lane (lit p.phases (o % round p.phases)) lane ≡ true
    shown o h = subst (λ b. has_lane (if b then lit p.phases (o % round p.phases) else 0) lane ≡ true) plan.lights h

    some : is_green_within p first last lane ≡ true → is_met (first % round p.phases) (first % round p.phases + (last - first)) (round p.phases) 0 p.phases lane ≡ true
    some h =
        let o = range_found first (last + 1 - first) (λ o. has_lane (green_lanes (Some p) o) lane) h in
        let hit = window_hit first last (round p.phases) o.0 (round-some p plan) o.1 (omega arith) in
        met_some (first % round p.phases) (first % round p.phases + (last - first)) (round p.phases) 0 p.phases lane (o.0 % round p.phases) (rw zero-add hit) (shown o.0 o.3)

-- one phase more of the list
pub met_step : (from to turn end k lane red green : ℕ) (ps : List Phase) (f : Phase) → k < length ps → red ≡ (get_or ps k f).red → green ≡ (get_or ps k f).green → is_met from to turn end (drop k ps) lane
    ≡ (((nat_le (end + red) to && nat_lt from (end + red + green) || nat_le (end + red + turn) to) && has_lane (get_or ps k f).lanes lane)
    || is_met from to turn (end + red + green) (drop (k + 1) ps) lane)
met_step from to turn end k lane red green ps f l e g = ap (λ qs. is_met from to turn end qs lane) (drop-cons ps k f l) ∙ rw (add-one, e, g) refl

pub or_next : (a b r o t x : Bool) → (a || o) ≡ t → o ≡ (b || r) → x ≡ (a || b) → (x || r) ≡ t
or_next true b r o t x e f g = rw g e
or_next false b r o t x e f g = rw g (sym f ∙ e)

or_false : (b : Bool) → (b || false) ≡ b
or_false true = refl
or_false false = refl

-- all phases of the list
pub met_done : (from to turn k end lane : ℕ) (ps : List Phase) (acc all : Bool) → length ps ≤ k → (acc || is_met from to turn end (drop k ps) lane) ≡ all → acc ≡ all
met_done from to turn k end lane ps acc all past h =
    sym (or_false acc)
    ∙ ap (λ qs. acc || is_met from to turn end qs lane) (sym (drop_all k ps past))
    ∙ h

-- a window that begins in the round at these offsets
pub met_window : (p : Policy) (first last from steps turn lane : ℕ) → IsPlan p → first ≤ last → turn ≡ round p.phases → from ≡ first % turn → steps ≡ last - first →
    is_met from (from + steps) turn 0 p.phases lane ≡ is_green_within p first last lane
met_window p first last from steps turn lane plan l t f s = rw (f, s, t) (met_within p first last lane plan l)

-- the ranges of a phase
pub phase_range : (ps : List Phase) (k : ℕ) (f : Phase) → AreInRange ps → k < length ps → IsInRange (get_or ps k f)
phase_range ps k f each l = each k (get_or ps k f) (slice_get-get_or ps k f l)
