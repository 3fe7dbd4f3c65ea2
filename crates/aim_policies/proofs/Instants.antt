-- The policy at a step, by the changes.
use Rattle.std.proofs.Common.{◌≡◌, ℕ, ◌-◌, ◌<◌, ◌≤◌, Bool, true, false, List, [], ◌∷◌, ◌++◌, length, map, get_or, Some, None, arith, refl, sym, ◌∙◌, ap, subst, length-append}
use Rattle.std.specs.Prelude.{nat_le, if◌then◌else◌, unwrap_or}
use Rattle.std.proofs.Math.Decide.{dec_lt}
use Rattle.std.proofs.Math.Seq.{get_or-append_seam}
use Rattle.std.proofs.lemmas.Bool.{lt-leb}
use Rattle.std.proofs.lemmas.List.{get_or_append_left, get_or-map, length-map}
use Rattle.aim_rules.specs.Timeline.{InForce}
use Rattle.aim_rules.specs.Kept.{policy_in}
use Rattle.aim_rules.proofs.Lists.{from_front}
use Rattle.aim_rules.proofs.PolicyLaws.{policy_in-snoc}
use Rattle.aim_rules.proofs.TestLemmas.{is_most, more_than, le_true}
use Rattle.aim_policies.specs.declared.timelines.Change.{Change}
use Rattle.aim_policies.specs.Changes.{start}
use Rattle.aim_policies.specs.Stored.{IsPoint, change_of}

pub policy_in-more : (fs : List InForce) (f : InForce) (s : ℕ) → policy_in (fs ++ f ∷ []) s ≡ (if nat_le f.from s then f else policy_in fs s)
policy_in-more fs f s = policy_in-snoc fs (Some f) s ∙ go (nat_le f.from s)
  where
    go : (b : Bool) → unwrap_or (if b then Some f else None) (policy_in fs s) ≡ (if b then f else policy_in fs s)
    go true = refl
    go false = refl

later_false : (m n : ℕ) → n < m → nat_le m n ≡ false
later_false m n l = lt-leb m n l

-- before the first change
pub policy_in-none : (s : ℕ) (fs : List InForce) → ((j : ℕ) (d : InForce) → j < length fs → s < (get_or fs j d).from) → policy_in fs s ≡ start
policy_in-none s fs later = from_front (λ fs. ((j : ℕ) (d : InForce) → j < length fs → s < (get_or fs j d).from) → policy_in fs s ≡ start) (λ none. refl) step fs later
  where
    step : (xs : List InForce) (x : InForce) → (((j : ℕ) (d : InForce) → j < length xs → s < (get_or xs j d).from) → policy_in xs s ≡ start) →
        ((j : ℕ) (d : InForce) → j < length (xs ++ x ∷ []) → s < (get_or (xs ++ x ∷ []) j d).from) → policy_in (xs ++ x ∷ []) s ≡ start
    step xs x earlier later =
        let last : s < x.from = rw (get_or-append_seam xs x [] x) at (later (length xs) x (omega (arith, length-append xs (x ∷ [])))) in
        policy_in-more xs x s ∙ rw (later_false x.from s last) (earlier (λ j d l. rw (get_or_append_left xs (x ∷ []) d j l) at (later j d (omega (arith, length-append xs (x ∷ []))))))

-- the last change that is not later
pub policy_in-at : (s : ℕ) (d : InForce) (fs : List InForce) (k : ℕ) → k < length fs → (get_or fs k d).from ≤ s → ((j : ℕ) → k < j → j < length fs → s < (get_or fs j d).from) → policy_in fs s ≡ get_or fs k d
policy_in-at s d fs k l now later =
    from_front (λ fs. (k : ℕ) → k < length fs → (get_or fs k d).from ≤ s → ((j : ℕ) → k < j → j < length fs → s < (get_or fs j d).from) → policy_in fs s ≡ get_or fs k d)
    (λ k l now later. absurd (omega arith)) step fs k l now later
  where
    step : (xs : List InForce) (x : InForce) →
        ((k : ℕ) → k < length xs → (get_or xs k d).from ≤ s → ((j : ℕ) → k < j → j < length xs → s < (get_or xs j d).from) → policy_in xs s ≡ get_or xs k d) →
        (k : ℕ) → k < length (xs ++ x ∷ []) → (get_or (xs ++ x ∷ []) k d).from ≤ s → ((j : ℕ) → k < j → j < length (xs ++ x ∷ []) → s < (get_or (xs ++ x ∷ []) j d).from) →
        policy_in (xs ++ x ∷ []) s ≡ get_or (xs ++ x ∷ []) k d
    step xs x earlier k l now later = elim (dec_lt k (length xs)) [
      | yes m ↦ (let last : s < x.from = rw (get_or-append_seam xs x [] d) at (later (length xs) m (omega (arith, length-append xs (x ∷ [])))) in
          let here = get_or_append_left xs (x ∷ []) d k m in
          policy_in-more xs x s ∙ rw (later_false x.from s last, here)
          (earlier k m (rw here at now) (λ j a b. rw (get_or_append_left xs (x ∷ []) d j b) at (later j a (omega (arith, length-append xs (x ∷ [])))))))
      | no m ↦ (let e : k ≡ length xs = omega (arith, length-append xs (x ∷ [])) in
          let here : get_or (xs ++ x ∷ []) k d ≡ x = rw e (get_or-append_seam xs x [] d) in
          let n : x.from ≤ s = rw here at now in
          policy_in-more xs x s ∙ rw (le_true x.from s n, here) refl)
    ]

-- between the step from which a policy is in force, and a step at which it is, it is
pub policy_in-same : (s t : ℕ) (fs : List InForce) → (policy_in fs t).from ≤ s → s ≤ t → policy_in fs s ≡ policy_in fs t
policy_in-same s t fs from to = from_front (λ fs. (policy_in fs t).from ≤ s → policy_in fs s ≡ policy_in fs t) (λ f. refl) step fs from
  where
    step : (xs : List InForce) (x : InForce) → ((policy_in xs t).from ≤ s → policy_in xs s ≡ policy_in xs t) → (policy_in (xs ++ x ∷ []) t).from ≤ s → policy_in (xs ++ x ∷ []) s ≡ policy_in (xs ++ x ∷ []) t
    step xs x earlier from = elim (dec_lt t x.from) [
      | yes l ↦ (let a = later_false x.from t l in
          let b = later_false x.from s (omega arith) in
          let at : policy_in (xs ++ x ∷ []) t ≡ policy_in xs t = policy_in-more xs x t ∙ rw a refl in
          policy_in-more xs x s ∙ rw b (earlier (rw at at from)) ∙ sym at)
      | no l ↦ (let a = le_true x.from t (omega arith) in
          let at : policy_in (xs ++ x ∷ []) t ≡ x = policy_in-more xs x t ∙ rw a refl in
          let m : x.from ≤ s = rw at at from in
          let b = le_true x.from s m in
          policy_in-more xs x s ∙ rw b refl ∙ sym at)
    ]

-- a policy is in force from no later step
pub policy_in-since : (s : ℕ) (fs : List InForce) → (policy_in fs s).from ≤ s
policy_in-since s fs = from_front (λ fs. (policy_in fs s).from ≤ s) (omega arith) step fs
  where
    step : (xs : List InForce) (x : InForce) → (policy_in xs s).from ≤ s → (policy_in (xs ++ x ∷ []) s).from ≤ s
    step xs x earlier = elim (dec_lt s x.from) [
      | yes l ↦ rw (policy_in-more xs x s, later_false x.from s l) earlier
      | no l ↦ (let n : x.from ≤ s = omega arith in rw (policy_in-more xs x s, le_true x.from s n) n)
    ]

none_stored : Change
none_stored = record { policy = 0; from = 0 }

-- what a search of the stored changes finds
found_none : (xs : List Change) (s : ℕ) → IsPoint xs s 0 → start ≡ policy_in (map change_of xs) s
found_none xs s point = sym (policy_in-none s (map change_of xs) (λ j d l.
    let m : j < length xs = omega (arith, length-map xs change_of) in
    rw (get_or-map change_of xs j none_stored d m) (more_than (get_or xs j none_stored).from s (point.1 j none_stored (omega arith) m))))

found_at : (xs : List Change) (s k : ℕ) (x : Change) → IsPoint xs s k → k ≤ length xs → 0 < k → x ≡ get_or xs (k - 1) x → change_of x ≡ policy_in (map change_of xs) s
found_at xs s k x point most some read =
    let l : k - 1 < length xs = omega arith in
    let m : k - 1 < length (map change_of xs) = omega (arith, length-map xs change_of) in
    let here : get_or (map change_of xs) (k - 1) start ≡ change_of x = get_or-map change_of xs (k - 1) x start l ∙ ap change_of (sym read) in
    let early : (get_or xs (k - 1) x).from ≤ s = is_most (get_or xs (k - 1) x).from s (point.0 (k - 1) x (omega arith) (omega arith)) in
    sym (policy_in-at s start (map change_of xs) (k - 1) m (rw (here, read) early) (λ j a b.
    let n : j < length xs = omega (arith, length-map xs change_of) in
    rw (get_or-map change_of xs j none_stored start n) (more_than (get_or xs j none_stored).from s (point.1 j none_stored (omega arith) n)))
    ∙ here)

-- the same of what the search read
pub none_begun : (xs read : List Change) (fs : List InForce) (s n : ℕ) → read ≡ xs → map change_of xs ≡ fs → IsPoint read s n → n ≡ 0 → start ≡ policy_in fs s
none_begun xs read fs s n same seen point none = subst (λ l. start ≡ policy_in l s) seen (found_none xs s (subst (λ k. IsPoint xs s k) none (subst (λ l. IsPoint l s n) same point)))

pub last_begun : (xs read : List Change) (fs : List InForce) (s n : ℕ) (x : Change) → read ≡ xs → map change_of xs ≡ fs → IsPoint read s n → n ≤ length read → (n ≡ 0 → ⊥) → x ≡ get_or xs (n - 1) x → change_of x ≡ policy_in fs s
last_begun xs read fs s n x same seen point most some at =
    let few : n ≤ length xs = subst (λ (l : List Change). n ≤ length l) same most in
    subst (λ l. change_of x ≡ policy_in l s) seen (found_at xs s n x (subst (λ l. IsPoint l s n) same point) few (omega (arith, some)) at)

pub since_step : (fs : List InForce) (s : ℕ) (f : InForce) → f ≡ policy_in fs s → f.from ≤ s
since_step fs s f is = subst (λ (g : InForce). g.from ≤ s) (sym is) (policy_in-since s fs)
