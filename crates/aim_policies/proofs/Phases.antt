-- The phases of a policy of a layout.
use Rattle.std.proofs.Common.{◌≡◌, ℕ, ◌+◌, ◌<◌, ◌≤◌, Bool, true, false, ◌&&◌, List, [], ◌∷◌, ◌++◌, length, take, get_or, set, drop, slice_get, nat_lt, lt-ltb, le-ltb, add-one, ◌-◌, Option, Some, None, arith, refl, sym, ◌∙◌, ap}
use Rattle.std.specs.Prelude.{option_map, option_and_then, ◌==◌, if◌then◌else◌}
use Rattle.std.proofs.Math.Seq.{drop-cons}
use Rattle.std.proofs.lemmas.List.{drop_all, take_more, take-set, get_or-set_same, length-set}
use Rattle.std.proofs.lemmas.List.Sums.{sum_by_push}
use Rattle.std.proofs.lemmas.Option.{slice_get_within, get_or_from_slice_get}
use Rattle.aim_layout.specs.declared.policies.PolicyKind.{PolicyKind}
use Rattle.aim_layout.specs.declared.policies.Phase.{Phase}
use Rattle.aim_layout.specs.Intersection.{Intersection, Policy}
use Rattle.aim_layout.specs.Policies.{has_lights}
use Rattle.aim_layout.specs.Valid.{IsValid}
use Rattle.aim_rules.specs.Lights.{lit, round}
use Rattle.aim_policies.specs.Plans.{AreInRange, IsPlan, phases_of, lights_of}

pub phase_read : (o : Option Policy) (n : ℕ) (f : Phase) → option_and_then (λ p. slice_get p.phases n) o ≡ Some f → slice_get (phases_of o) n ≡ Some f
phase_read None n f h = absurd (cc)
phase_read (Some p) n f h = h

pub count_read : (o : Option Policy) (n : ℕ) → option_map (λ p. length p.phases) o ≡ Some n → n ≡ length (phases_of o)
count_read None n h = absurd (cc)
count_read (Some p) n h = cc

-- the ranges of a layout's phases
pub range_read : (i : Intersection) (k : ℕ) → IsValid i → AreInRange (phases_of (slice_get i.policies k))
range_read i k valid = go (slice_get i.policies k) refl
  where
    go : (o : Option Policy) → slice_get i.policies k ≡ o → AreInRange (phases_of o)
    go None e j f h = absurd (cc)
    go (Some p) e j f h = let r = (valid.sound.each k p e).phases j f h in record { red = r.red; some_green = r.some_green; green = r.green }

pub most_read : (i : Intersection) (k : ℕ) → IsValid i → length (phases_of (slice_get i.policies k)) ≤ 16
most_read i k valid = go (slice_get i.policies k) refl
  where
    go : (o : Option Policy) → slice_get i.policies k ≡ o → length (phases_of o) ≤ 16
    go None e = omega arith
    go (Some p) e = (valid.sound.each k p e).count

some_length : (xs : List Phase) → (length xs == 0) ≡ false → 0 < length xs
some_length [] h = absurd (cc)
some_length (x ∷ xs) h = omega arith

and_second : (a b : Bool) → a ≡ true → (a && b) ≡ false → b ≡ false
and_second true b e h = h
and_second false b e h = absurd (cc)

pub plan_read : (i : Intersection) (k : ℕ) (kind : PolicyKind) (taken : List Phase) → IsValid i → option_map (λ p. p.kind) (slice_get i.policies k) ≡ Some kind → has_lights kind ≡ true →
    taken ≡ phases_of (slice_get i.policies k) → IsPlan (record { kind = kind; phases = taken }) × (Some (record { kind = kind; phases = taken }) ≡ lights_of (slice_get i.policies k))
plan_read i k kind taken valid is lights same = go (slice_get i.policies k) refl is same
  where
    go : (o : Option Policy) → slice_get i.policies k ≡ o → option_map (λ p. p.kind) o ≡ Some kind → taken ≡ phases_of o → IsPlan (record { kind = kind; phases = taken }) × (Some (record { kind = kind; phases = taken }) ≡ lights_of o)
    go None e f g = absurd (cc)
    go (Some p) e f g =
        let q : p.kind ≡ kind = cc in
        let shines : has_lights p.kind ≡ true = rw q lights in
        let same : record { kind = kind; phases = taken } ≡ p = rw (← q, g) refl in (
          rw same (record {
            lights = shines;
            some = some_length p.phases (and_second (has_lights p.kind) (length p.phases == 0) shines (valid.whole k p e));
            most = (valid.sound.each k p e).count;
            each = λ j f h. let r = (valid.sound.each k p e).phases j f h in record { red = r.red; some_green = r.some_green; green = r.green };
          }),
          rw (same, shines) refl,
        )

pub dark_read : (i : Intersection) (k : ℕ) (kind : PolicyKind) → option_map (λ p. p.kind) (slice_get i.policies k) ≡ Some kind → has_lights kind ≡ false → None ≡ lights_of (slice_get i.policies k)
dark_read i k kind is dark = go (slice_get i.policies k) is
  where
    go : (o : Option Policy) → option_map (λ p. p.kind) o ≡ Some kind → None ≡ lights_of o
    go None f = refl
    go (Some p) f = let q : p.kind ≡ kind = cc in let d : has_lights p.kind ≡ false = rw q dark in rw d refl

-- one phase more
pub taken_more : (phases all : List Phase) (n : ℕ) (f : Phase) → n < length phases → take n phases ≡ take n all → slice_get all n ≡ Some f → take (n + 1) (set phases n f) ≡ take (n + 1) all
taken_more phases all n f l same read =
    let l' : n < length (set phases n f) = omega (arith, length-set phases n f) in
    let m = slice_get_within all n f read in
    take_more (set phases n f) n f l'
    ∙ ap (λ xs. xs ++ get_or (set phases n f) n f ∷ []) (take-set phases n f ∙ same)
    ∙ ap (λ x. take n all ++ x ∷ []) (get_or-set_same phases n f f l ∙ sym (get_or_from_slice_get all n f f read))
    ∙ sym (take_more all n f m)

pub round_more : (all : List Phase) (n : ℕ) (f : Phase) → slice_get all n ≡ Some f → round (take (n + 1) all) ≡ round (take n all) + (f.red + f.green)
round_more all n f read =
    ap round (take_more all n f (slice_get_within all n f read)) ∙ sum_by_push (λ f. f.red + f.green) (take n all) (get_or all n f) ∙ ap (λ x. round (take n all) + (x.red + x.green)) (get_or_from_slice_get all n f f read)

-- what is green at an offset, from one of the phases on
lit_next : (ps : List Phase) (k left : ℕ) (f : Phase) → k < length ps → lit (drop k ps) left
    ≡ (if nat_lt left (get_or ps k f).red then 0 else if nat_lt left ((get_or ps k f).red + (get_or ps k f).green) then (get_or ps k f).lanes
    else lit (drop (k + 1) ps) (left - ((get_or ps k f).red + (get_or ps k f).green)))
lit_next ps k left f l = ap (λ qs. lit qs left) (drop-cons ps k f l) ∙ rw add-one refl

-- the offset is in the red
pub lit_red : (ps : List Phase) (k left : ℕ) (f : Phase) → k < length ps → left < (get_or ps k f).red → lit (drop k ps) left ≡ 0
lit_red ps k left f l red = lit_next ps k left f l ∙ rw (lt-ltb left (get_or ps k f).red red) refl

-- the offset is in the green
pub lit_green : (ps : List Phase) (k left : ℕ) (f : Phase) → k < length ps → (get_or ps k f).red ≤ left → left - (get_or ps k f).red < (get_or ps k f).green
    → lit (drop k ps) left ≡ (get_or ps k f).lanes
lit_green ps k left f l past green =
    lit_next ps k left f l
    ∙ rw (le-ltb left (get_or ps k f).red past, lt-ltb left ((get_or ps k f).red + (get_or ps k f).green) (omega arith)) refl

-- the offset is past the phase
pub lit_past : (ps : List Phase) (k left : ℕ) (f : Phase) → k < length ps → (get_or ps k f).red ≤ left → (get_or ps k f).green ≤ left - (get_or ps k f).red
    → lit (drop k ps) left ≡ lit (drop (k + 1) ps) (left - (get_or ps k f).red - (get_or ps k f).green)
lit_past ps k left f l red green =
    let same : left - ((get_or ps k f).red + (get_or ps k f).green) ≡ left - (get_or ps k f).red - (get_or ps k f).green = omega arith in
    lit_next ps k left f l
    ∙ rw (le-ltb left (get_or ps k f).red red, le-ltb left ((get_or ps k f).red + (get_or ps k f).green) (omega arith), same) refl

-- no phase is left
pub lit_none : (ps : List Phase) (k left : ℕ) → length ps ≤ k → lit (drop k ps) left ≡ 0
lit_none ps k left past = ap (λ qs. lit qs left) (drop_all k ps past)
