-- The greens of a policy of a valid layout.
use Rattle.std.proofs.Common.{◌≡◌, ℕ, suc, ◌+◌, ◌-◌, ◌/◌, ◌%◌, ◌<◌, ◌≤◌, Bool, true, false, List, [], ◌∷◌, length, slice_get, Option, Some, None, arith, refl, nat_lt, subst}
use Rattle.std.specs.Prelude.{if◌then◌else◌}
use Rattle.std.proofs.Math.Decide.{dec_lt}
use Rattle.std.proofs.Math.Nat.{mul-le-mul_left}
use Rattle.std.proofs.lemmas.Nat.{mod_below, div-add-mod'}
use Rattle.aim_layout.specs.declared.policies.Phase.{Phase}
use Rattle.aim_layout.specs.Intersection.{Intersection, Policy}
use Rattle.aim_layout.specs.LaneTiles.{in_lane_tiles}
use Rattle.aim_layout.specs.Policies.{has_lane, has_lights}
use Rattle.aim_layout.specs.Valid.{IsValid, IsPhase}
use Rattle.aim_rules.specs.Lights.{lit, round, green_lanes}
use Rattle.aim_rules.proofs.TestLemmas.{is_less, not_less}
use Rattle.aim_policies.proofs.Rounds.{has_lane-none, round-cons}

abbrev AreClear : Intersection → List Phase → Type 0
AreClear i ps = (j : ℕ) (f : Phase) → slice_get ps j ≡ Some f → IsPhase i f

-- the phase of a green
lit_phase : (ps : List Phase) (o lane : ℕ) → has_lane (lit ps o) lane ≡ true → (j : ℕ) × (f : Phase) × (slice_get ps j ≡ Some f) × (lit ps o ≡ f.lanes)
lit_phase [] o lane h = absurd (let n = has_lane-none lane in cc)
lit_phase (p ∷ ps) o lane h = go (lit_phase ps (o - (p.red + p.green)) lane) (nat_lt o p.red) (nat_lt o (p.red + p.green)) refl refl h
  where
    go : (has_lane (lit ps (o - (p.red + p.green))) lane ≡ true → (j : ℕ) × (f : Phase) × (slice_get ps j ≡ Some f) × (lit ps (o - (p.red + p.green)) ≡ f.lanes)) →
        (b c : Bool) → nat_lt o p.red ≡ b → nat_lt o (p.red + p.green) ≡ c → has_lane (if b then 0 else if c then p.lanes else lit ps (o - (p.red + p.green))) lane ≡ true →
        (j : ℕ) × (f : Phase) × (slice_get (p ∷ ps) j ≡ Some f) × (lit (p ∷ ps) o ≡ f.lanes)
    go later true c e f h = absurd (let n = has_lane-none lane in cc)
    go later false true e f h = (0, p, refl, rw (e, f) refl)
    go later false false e f h = let r = later h in (suc r.0, r.1, r.2, rw (e, f) r.3)

-- a green has a red of at least the clearance before it
lit_clear : (i : Intersection) (ps : List Phase) (o lane : ℕ) → AreClear i ps → has_lane (lit ps o) lane ≡ true → i.times.clearance ≤ o
lit_clear i [] o lane clear h = absurd (let n = has_lane-none lane in cc)
lit_clear i (p ∷ ps) o lane clear h = go (nat_lt o p.red) refl h
  where
    red : i.times.clearance ≤ p.red
    red = (clear 0 p refl).clear

    go : (b : Bool) → nat_lt o p.red ≡ b → has_lane (if b then 0 else if nat_lt o (p.red + p.green) then p.lanes else lit ps (o - (p.red + p.green))) lane ≡ true → i.times.clearance ≤ o
    go true e h = absurd (let n = has_lane-none lane in cc)
    go false e h = let r = red in let m = not_less o p.red e in omega arith

lit_one : (i : Intersection) (ps : List Phase) (x y a b : ℕ) → AreClear i ps → x ≤ y → y ≤ x + i.times.clearance → has_lane (lit ps x) a ≡ true → has_lane (lit ps y) b ≡ true → lit ps x ≡ lit ps y
lit_one i [] x y a b clear l m h k = refl
lit_one i (p ∷ ps) x y a b clear l m h k =
    go (lit_one i ps (x - (p.red + p.green)) (y - (p.red + p.green)) a b (λ j f e. clear (suc j) f e)) (lit_clear i ps (y - (p.red + p.green)) b (λ j f e. clear (suc j) f e))
    (nat_lt x p.red) (nat_lt x (p.red + p.green)) (nat_lt y p.red) (nat_lt y (p.red + p.green)) refl refl refl refl h k
  where
    go : (x - (p.red + p.green) ≤ y - (p.red + p.green) → y - (p.red + p.green) ≤ x - (p.red + p.green) + i.times.clearance →
        has_lane (lit ps (x - (p.red + p.green))) a ≡ true → has_lane (lit ps (y - (p.red + p.green))) b ≡ true → lit ps (x - (p.red + p.green)) ≡ lit ps (y - (p.red + p.green))) →
        (has_lane (lit ps (y - (p.red + p.green))) b ≡ true → i.times.clearance ≤ y - (p.red + p.green)) →
        (b0 b1 b2 b3 : Bool) → nat_lt x p.red ≡ b0 → nat_lt x (p.red + p.green) ≡ b1 → nat_lt y p.red ≡ b2 → nat_lt y (p.red + p.green) ≡ b3 →
        has_lane (if b0 then 0 else if b1 then p.lanes else lit ps (x - (p.red + p.green))) a ≡ true →
        has_lane (if b2 then 0 else if b3 then p.lanes else lit ps (y - (p.red + p.green))) b ≡ true →
        (if b0 then 0 else if b1 then p.lanes else lit ps (x - (p.red + p.green))) ≡ (if b2 then 0 else if b3 then p.lanes else lit ps (y - (p.red + p.green)))
    go later far true b1 b2 b3 e f g d h k = absurd (let n = has_lane-none a in cc)
    go later far b0 b1 true b3 e f g d h k = absurd (let n = has_lane-none b in cc)
    go later far false true false true e f g d h k = refl
    go later far false true false false e f g d h k =
        absurd (let r = far k in let s = not_less y (p.red + p.green) d in let t = is_less x (p.red + p.green) f in omega arith)
    go later far false false false true e f g d h k =
        absurd (let s = is_less y (p.red + p.green) d in let t = not_less x (p.red + p.green) f in omega arith)
    go later far false false false false e f g d h k =
        let t = not_less x (p.red + p.green) f in later (omega arith) (omega arith) h k

-- the phases of a policy of the layout
clear_of : (i : Intersection) (k : ℕ) (p : Policy) → IsValid i → slice_get i.policies k ≡ Some p → AreClear i p.phases
clear_of i k p valid e = (valid.sound.each k p e).phases

lit_of_green : (p : Policy) (o lane : ℕ) → has_lane (green_lanes (Some p) o) lane ≡ true → (has_lights p.kind ≡ true) × (has_lane (lit p.phases (o % round p.phases)) lane ≡ true)
lit_of_green p o lane h = go (has_lights p.kind) refl h
  where
    go : (b : Bool) → has_lights p.kind ≡ b → has_lane (if b then lit p.phases (o % round p.phases) else 0) lane ≡ true → (has_lights p.kind ≡ true) × (has_lane (lit p.phases (o % round p.phases)) lane ≡ true)
    go true e h = (e, h)
    go false e h = absurd (let n = has_lane-none lane in cc)

-- a green is at least the clearance past the step from which the policy is in force
pub green_clear : (i : Intersection) (k o lane : ℕ) → IsValid i → has_lane (green_lanes (slice_get i.policies k) o) lane ≡ true → i.times.clearance ≤ o
green_clear i k o lane valid h = go (slice_get i.policies k) refl h
  where
    less : (n : ℕ) → o % n ≤ o
    less n = let d = div-add-mod' o n in omega arith

    go : (q : Option Policy) → slice_get i.policies k ≡ q → has_lane (green_lanes q o) lane ≡ true → i.times.clearance ≤ o
    go None e h = absurd (let n = has_lane-none lane in cc)
    go (Some p) e h =
        let r = lit_clear i p.phases (o % round p.phases) lane (clear_of i k p valid e) (lit_of_green p o lane h).1 in
        let m = less (round p.phases) in omega arith

pub green_there : (i : Intersection) (k o lane : ℕ) → IsValid i → has_lane (green_lanes (slice_get i.policies k) o) lane ≡ true → lane < length i.lanes
green_there i k o lane valid h = go (slice_get i.policies k) refl h
  where
    go : (q : Option Policy) → slice_get i.policies k ≡ q → has_lane (green_lanes q o) lane ≡ true → lane < length i.lanes
    go None e h = absurd (let n = has_lane-none lane in cc)
    go (Some p) e h =
        let g = (lit_of_green p o lane h).1 in
        let f = lit_phase p.phases (o % round p.phases) lane g in
        (clear_of i k p valid e f.0 f.1 f.2).lanes lane (subst (λ lanes. has_lane lanes lane ≡ true) f.3 g)

-- lanes that are green at once share no tile
pub green_apart : (i : Intersection) (k o a b row col : ℕ) → IsValid i → has_lane (green_lanes (slice_get i.policies k) o) a ≡ true → has_lane (green_lanes (slice_get i.policies k) o) b ≡ true →
    in_lane_tiles i a row col ≡ true → in_lane_tiles i b row col ≡ true → a ≡ b
green_apart i k o a b row col valid h j s t = go (slice_get i.policies k) refl h j
  where
    go : (q : Option Policy) → slice_get i.policies k ≡ q → has_lane (green_lanes q o) a ≡ true → has_lane (green_lanes q o) b ≡ true → a ≡ b
    go None e h j = absurd (let n = has_lane-none a in cc)
    go (Some p) e h j =
        let g = (lit_of_green p o a h).1 in
        let g' = (lit_of_green p o b j).1 in
        let f = lit_phase p.phases (o % round p.phases) a g in
        let phase = clear_of i k p valid e f.0 f.1 f.2 in
        let x : has_lane (f.1).lanes a ≡ true = subst (λ lanes. has_lane lanes a ≡ true) f.3 g in
        let y : has_lane (f.1).lanes b ≡ true = subst (λ lanes. has_lane lanes b ≡ true) f.3 g' in
        elim (dec_lt b a) [
          | yes l ↦ absurd (let z = phase.apart a b row col l x y s in cc)
          | no l ↦ elim (dec_lt a b) [
            | yes m ↦ absurd (let z = phase.apart b a row col m y x t in cc)
            | no m ↦ (omega arith)
          ]
        ]

-- greens of one policy, at most the clearance apart, are of one phase
pub green_one : (i : Intersection) (k first last a b : ℕ) → IsValid i → first ≤ last → last ≤ first + i.times.clearance →
    has_lane (green_lanes (slice_get i.policies k) first) a ≡ true → has_lane (green_lanes (slice_get i.policies k) last) b ≡ true →
    green_lanes (slice_get i.policies k) first ≡ green_lanes (slice_get i.policies k) last
green_one i k first last a b valid l m h j = go (slice_get i.policies k) refl h j
  where
    -- both are in one round
    inside : (turn : ℕ) → 0 < turn → i.times.clearance ≤ last % turn → (first % turn ≤ last % turn) × (last % turn ≤ first % turn + i.times.clearance)
    inside turn some c =
        let d = div-add-mod' first turn in
        let d' = div-add-mod' last turn in
        let below : first % turn < turn = mod_below first turn some in
        let under : last % turn < turn = mod_below last turn some in
        elim (dec_lt (first / turn) (last / turn)) [
          | yes n ↦ absurd (omega (arith, mul-le-mul_left turn n))
          | no n ↦ elim (dec_lt (last / turn) (first / turn)) [
            | yes o ↦ absurd (omega (arith, mul-le-mul_left turn o))
            | no o ↦ (let same : last / turn ≡ first / turn = omega arith in let e = rw same at d' in (omega arith, omega arith))
          ]
        ]

    some_round : (ps : List Phase) (x : ℕ) → AreClear i ps → has_lane (lit ps x) a ≡ true → 0 < round ps
    some_round [] x clear h = absurd (let n = has_lane-none a in cc)
    some_round (p ∷ ps) x clear h = let g = (clear 0 p refl).some_green in omega (arith, round-cons p ps)

    go : (q : Option Policy) → slice_get i.policies k ≡ q → has_lane (green_lanes q first) a ≡ true → has_lane (green_lanes q last) b ≡ true → green_lanes q first ≡ green_lanes q last
    go None e h j = refl
    go (Some p) e h j =
        let g = lit_of_green p first a h in
        let g' = (lit_of_green p last b j).1 in
        let clear = clear_of i k p valid e in
        let c = lit_clear i p.phases (last % round p.phases) b clear g' in
        let near = inside (round p.phases) (some_round p.phases (first % round p.phases) clear g.1) c in
        rw g.0 (lit_one i p.phases (first % round p.phases) (last % round p.phases) a b clear near.0 near.1 g.1 g')
