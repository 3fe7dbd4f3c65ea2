-- What is read of the policies, and of the last one.
use Rattle.std.proofs.Common.{◌≡◌, ℕ, ◌-◌, ◌<◌, true, List, [], ◌∷◌, ◌++◌, length, slice_get, get_or, set, Option, Some, None, arith, refl, sym, ◌∙◌, ap}
use Rattle.std.specs.Prelude.{option_map, option_and_then}
use Rattle.std.proofs.Math.Decide.{dec_lt}
use Rattle.std.proofs.lemmas.Option.{slice_get_past, slice_get_read, slice_get_within}
use Rattle.aim_layout.specs.declared.policies.Phase.{Phase}
use Rattle.aim_layout.specs.Intersection.{Intersection, Policy}
use Rattle.aim_layout.specs.Building.{last_policy, lacks_phase, phase_fault, with_phase, with_phase_of}
use Rattle.aim_layout.proofs.SoundLemmas.{IsPhaseOf, phase_found}

-- what is asked of a policy that was read
pub policy_read : {Y : Type 0} (f : Policy → Y) (ps : List Policy) (k : ℕ) (p : Policy) → k < length ps → p ≡ get_or ps k p → option_map f (slice_get ps k) ≡ Some (f p)
policy_read f ps k p h e = rw (slice_get_read ps (length ps) k p refl h e) refl

-- a phase of a policy that was read
pub phase_read : (ps : List Policy) (k j : ℕ) (p : Policy) (f : Phase) → k < length ps → p ≡ get_or ps k p → slice_get p.phases j ≡ Some f →
    option_and_then (λ p. slice_get p.phases j) (slice_get ps k) ≡ Some f
phase_read ps k j p f h e g = rw (slice_get_read ps (length ps) k p refl h e) g

pub phase_within : (ps : List Policy) (k j : ℕ) (p : Policy) → k < length ps → p ≡ get_or ps k p →
    (option_and_then (λ p. slice_get p.phases j) (slice_get ps k) ≡ None → ⊥) → j < length p.phases
phase_within ps k j p h e some = elim (dec_lt j (length p.phases)) [
  | yes l ↦ l
  | no n ↦ absurd (some (rw (slice_get_read ps (length ps) k p refl h e) (slice_get_past p.phases j (omega arith))))
]

-- where the last policy lacks a phase, there is one
pub last_there : (i : Intersection) → lacks_phase (last_policy i) ≡ true → 0 < length i.policies
last_there i h = go (last_policy i) refl h
  where
    go : (o : Option Policy) → last_policy i ≡ o → lacks_phase o ≡ true → 0 < length i.policies
    go None e t = absurd (cc)
    go (Some p) e t = let l = slice_get_within i.policies (length i.policies - 1) p e in omega arith

-- where a phase isn't refused, there is a policy
pub phase_there : (i : Intersection) (f : Phase) → phase_fault i f ≡ None → 0 < length i.policies
phase_there i f h =
    let found = phase_found i f h in
    let l = slice_get_within i.policies (length i.policies - 1) found.0 found.1 in
    omega arith

-- where a phase isn't refused, the last policy that was read takes it
pub phase_last : (i : Intersection) (f : Phase) (count : ℕ) (p : Policy) → phase_fault i f ≡ None → count ≡ length i.policies → p ≡ get_or i.policies (count - 1) p →
    (last_policy i ≡ Some p) × IsPhaseOf i f p
phase_last i f count p h c e =
    let found = phase_found i f h in
    let there = slice_get_within i.policies (length i.policies - 1) found.0 found.1 in
    let read : slice_get i.policies (length i.policies - 1) ≡ Some p = slice_get_read i.policies (length i.policies) (length i.policies - 1) p refl there (rw c at e) in
    let same : Some found.0 ≡ Some p = sym found.1 ∙ read in
    let q : found.0 ≡ p = cc in
    (read, rw q at found.2)

-- what the last policy gets
pub with_phase_last : (i : Intersection) (f : Phase) (count : ℕ) (p new : Policy) → last_policy i ≡ Some p → count ≡ length i.policies → new ≡ record p { phases = p.phases ++ f ∷ [] } →
    record i { policies = set i.policies (count - 1) new } ≡ with_phase i f
with_phase_last i f count p new e c n = rw (n, c) (ap (with_phase_of i f) (sym e))
