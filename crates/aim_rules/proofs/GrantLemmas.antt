-- What a Confirm rests on, whichever message it answers.
use Rattle.std.proofs.Common.{◌≡◌, ℕ, zero, suc, ◌+◌, ◌-◌, ◌<◌, ◌≤◌, Bool, true, false, ◌&&◌, not, nat_le, map, List, [], ◌∷◌, ◌++◌, Option, Some, None, is_none, arith, refl, sym, ap, subst, ◌∙◌, inl, inr, if◌then◌else◌}
use Rattle.std.specs.Prelude.{find}
use Rattle.std.specs.List.{range_with_len}
use Rattle.std.specs.Option.{option_or}
use Rattle.std.proofs.Math.Decide.{dec_lt}
use Rattle.std.proofs.lemmas.Bool.{and_parts}
use Rattle.aim_messages.specs.declared.messages.Params.{Params}
use Rattle.aim_messages.specs.declared.messages.Body.{Body}
use Rattle.aim_messages.specs.declared.messages.Body.TheVariants as body
use Rattle.aim_messages.specs.declared.replies.Reason.{Reason}
use Rattle.aim_messages.specs.declared.replies.Reason.TheVariants as reason
use Rattle.aim_messages.specs.declared.replies.Reply.{Reply}
use Rattle.aim_messages.specs.declared.replies.Reply.TheVariants as reply
use Rattle.aim_geometry.specs.Bounded.{find_map}
use Rattle.aim_layout.specs.Intersection.{Intersection}
use Rattle.aim_rules.specs.Cells.{IsIn}
use Rattle.aim_rules.specs.Trials.{Trial, candidates, fast_first, granted_trial, has_windows, is_fast_made, judged}
use Rattle.aim_rules.specs.Bad.{bad}
use Rattle.aim_rules.specs.History.{is_confirm, params_of}
use Rattle.aim_rules.specs.Answer.{answer_fresh, answer_asking, answer_free, granted_or_refused, is_free, ends_beyond, refused_or, confirmation, first_blocked, first_reason, own_refusal, where_so, too_soon, bad_field, too_late, too_far, too_distant, in_the_way}
use Rattle.aim_rules.specs.Known.{Known}
use Rattle.aim_rules.proofs.TestLemmas.{le_false, more_than, not_true}
use Rattle.aim_rules.proofs.Lists.{IsIn-end, find-in, find-test}
use Rattle.aim_rules.proofs.GoodLemmas.{good_params}
use Rattle.aim_rules.proofs.FreeLemmas.{first_none, map_none, find-each}

-- what a Confirm rests on: no test gives a reason, so the params are good, their cells are late and near enough, and of
-- the trials the first that ends before the horizon and has no blocked cell is granted
pub record IsGranted (i : Intersection) (k : Known) (p : Params) (r : Reply) : Type 0 where
  pub passed : first_reason i k p ≡ None
  pub good : bad i p ≡ None
  pub later : nat_le p.arrive (k.now + i.times.edge) ≡ false
  pub near : ends_beyond i k p (judged i p) ≡ false
  pub trial : Trial
  pub chosen : find (is_free i k p) (candidates i p) ≡ Some trial
  pub among : IsIn trial (candidates i p)
  pub within : ends_beyond i k p trial ≡ false
  pub free : first_blocked i k p trial ≡ None
  pub form : r ≡ confirmation i k p trial

-- the trial that a Confirm names is the one that it rests on
pub grants_trial : (i : Intersection) (k : Known) (p : Params) (r : Reply) (g : IsGranted i k p r) → granted_trial r ≡ Some g.trial
grants_trial i k p r g = ap granted_trial g.form

-- a Confirm comes where there is no reason
refused_or-confirm : (i : Intersection) (k : Known) (p : Params) (o : Option Reason) (r : Reply) → is_confirm (refused_or i k p o r) ≡ true → (o ≡ None) × (is_confirm r ≡ true) × (refused_or i k p o r ≡ r)
refused_or-confirm i k p None r h = (refl, h, refl)
refused_or-confirm i k p (Some why) r h = absurd (cc)

-- the trials of a request

window_has : (f : ℕ → Trial) (s a n : ℕ) → a ≤ s → s < a + n → IsIn (f s) (map f (range_with_len a n))
window_has f s a zero low high = absurd (omega arith)
window_has f s a (suc n) low high = elim (dec_lt a s) [
  | yes b ↦ inr (window_has f s (a + 1) n (omega arith) (omega arith))
  | no b ↦ (let e : s ≡ a = omega arith in inl (ap f e))
]

window_from : (f : ℕ → Trial) (t : Trial) (a n : ℕ) → IsIn t (map f (range_with_len a n)) → (s : ℕ) × (a ≤ s) × (s < a + n) × (t ≡ f s)
window_from f t a zero m = absurd m
window_from f t a (suc n) (inl e) = (a, omega arith, omega arith, e)
window_from f t a (suc n) (inr m) = let r = window_from f t (a + 1) n m in (r.0, omega arith, omega arith, r.3)

-- each step of the window is the start of a trial
pub among_window : (i : Intersection) (p : Params) (s : ℕ) → has_windows i ≡ true → p.arrive ≤ s → s ≤ p.latest → IsIn (record { start = s; fast = is_fast_made p }) (candidates i p)
among_window i p s w low high = rw w (window_has (λ s. record { start = s; fast = is_fast_made p }) s p.arrive (p.latest + 1 - p.arrive) low (omega arith))

-- so is the trial by which the request is judged
pub judged_among : (i : Intersection) (p : Params) → (has_windows i ≡ true → p.arrive ≤ p.latest) → IsIn (judged i p) (candidates i p)
judged_among i p window = go (has_windows i) window
  where
    go : (b : Bool) → (b ≡ true → p.arrive ≤ p.latest) → IsIn (record { start = p.arrive; fast = b && is_fast_made p }) (if b then map (λ s. record { start = s; fast = is_fast_made p }) (range_with_len p.arrive (p.latest + 1 - p.arrive)) else fast_first p ++ record { start = p.arrive; fast = false } ∷ [])
    go true w = let l = w refl in window_has (λ s. record { start = s; fast = is_fast_made p }) p.arrive p.arrive (p.latest + 1 - p.arrive) (omega arith) (omega arith)
    go false w = IsIn-end (fast_first p) (record { start = p.arrive; fast = false })

fast_starts : (p : Params) (b : Bool) (t : Trial) → IsIn t ((if b then record { start = p.arrive; fast = true } ∷ [] else []) ++ record { start = p.arrive; fast = false } ∷ []) → t.start ≡ p.arrive
fast_starts p true t (inl e) = ap (λ (t : Trial). t.start) e
fast_starts p true t (inr (inl e)) = ap (λ (t : Trial). t.start) e
fast_starts p true t (inr (inr m)) = absurd m
fast_starts p false t (inl e) = ap (λ (t : Trial). t.start) e
fast_starts p false t (inr m) = absurd m

-- a trial of a request with one arrival starts there
pub starts_there : (i : Intersection) (p : Params) (t : Trial) → has_windows i ≡ false → IsIn t (candidates i p) → t.start ≡ p.arrive
starts_there i p t one m = fast_starts p (is_fast_made p) t (rw one at m)

-- a trial of a request with a window starts in it, and is the one that is made
pub starts_within : (i : Intersection) (p : Params) (t : Trial) → has_windows i ≡ true → IsIn t (candidates i p) → (p.arrive ≤ t.start) × (t.start < p.arrive + (p.latest + 1 - p.arrive)) × (t.fast ≡ is_fast_made p)
starts_within i p t many m =
    let r = window_from (λ s. record { start = s; fast = is_fast_made p }) t p.arrive (p.latest + 1 - p.arrive) (rw many at m) in
    let e : t.start ≡ r.0 = ap (λ (t : Trial). t.start) r.3 in
    let low = r.1 in
    let high = r.2 in
    (omega arith, omega arith, ap (λ (t : Trial). t.fast) r.3)

-- no trial starts before the arrival
pub starts_from : (i : Intersection) (p : Params) (t : Trial) → IsIn t (candidates i p) → p.arrive ≤ t.start
starts_from i p t m = go (has_windows i) refl
  where
    go : (b : Bool) → has_windows i ≡ b → p.arrive ≤ t.start
    go true w = (starts_within i p t w m).0
    go false w = let e = starts_there i p t w m in omega arith

pub starts_later : (i : Intersection) (p : Params) (t : Trial) (n : ℕ) → IsIn t (candidates i p) → nat_le p.arrive n ≡ false → nat_le t.start n ≡ false
starts_later i p t n m later = let a = starts_from i p t m in let b = more_than p.arrive n later in le_false t.start n (omega arith)

-- what a free trial is

none_is : {X : Type 0} (o : Option X) → is_none o ≡ true → o ≡ None
none_is None h = refl
none_is (Some x) h = absurd (cc)

pub free_parts : (i : Intersection) (k : Known) (p : Params) (t : Trial) → is_free i k p t ≡ true → (ends_beyond i k p t ≡ false) × (first_blocked i k p t ≡ None)
free_parts i k p t h =
    let a = and_parts (not (ends_beyond i k p t)) (is_none (first_blocked i k p t)) h in
    (not_true (ends_beyond i k p t) a.0, none_is (first_blocked i k p t) a.1)

pub is_free-both : (i : Intersection) (k : Known) (p : Params) (t : Trial) → ends_beyond i k p t ≡ false → first_blocked i k p t ≡ None → is_free i k p t ≡ true
is_free-both i k p t near free = rw (near, free) refl

-- where a trial is free, one is granted
pub free_grants : (i : Intersection) (k : Known) (p : Params) (t : Trial) → IsIn t (candidates i p) → is_free i k p t ≡ true → is_confirm (answer_free i k p) ≡ true
free_grants i k p t m free = go (find (is_free i k p) (candidates i p)) refl
  where
    go : (o : Option Trial) → find (is_free i k p) (candidates i p) ≡ o → is_confirm (granted_or_refused i k p o) ≡ true
    go (Some u) e = refl
    go None e = absurd (let n = find-each (is_free i k p) (candidates i p) t e m in cc)

-- what is granted is found: where none is free, the one that judges the request is blocked
free_found : (i : Intersection) (k : Known) (p : Params) → IsIn (judged i p) (candidates i p) → ends_beyond i k p (judged i p) ≡ false → is_confirm (answer_free i k p) ≡ true →
    (t : Trial) × (find (is_free i k p) (candidates i p) ≡ Some t) × (answer_free i k p ≡ confirmation i k p t)
free_found i k p among near h = go (find (is_free i k p) (candidates i p)) refl h
  where
    none : (o : Option Reason) → first_blocked i k p (judged i p) ≡ o → find (is_free i k p) (candidates i p) ≡ None → is_confirm (refused_or i k p o (confirmation i k p (judged i p))) ≡ true → ⊥
    none None f e h = let n = find-each (is_free i k p) (candidates i p) (judged i p) e among in let y = is_free-both i k p (judged i p) near f in cc
    none (Some why) f e h = cc

    go : (o : Option Trial) → find (is_free i k p) (candidates i p) ≡ o → is_confirm (granted_or_refused i k p o) ≡ true →
        (t : Trial) × (find (is_free i k p) (candidates i p) ≡ Some t) × (answer_free i k p ≡ confirmation i k p t)
    go (Some t) e h = (t, e, ap (granted_or_refused i k p) e)
    go None e h = absurd (none (first_blocked i k p (judged i p)) refl e h)

-- a test that gives no reason fails
not_so : (b : Bool) (why : Reason) → where_so b why ≡ None → b ≡ false
not_so true why h = absurd (cc)
not_so false why h = refl

-- what it says that none of the tests gives a reason
pub tests_passed : (i : Intersection) (k : Known) (p : Params) → first_reason i k p ≡ None →
    (bad i p ≡ None) × (nat_le p.arrive (k.now + i.times.edge) ≡ false)
    × (ends_beyond i k p (judged i p) ≡ false)
tests_passed i k p h =
    let rest = λ (ts : List (Intersection → Known → Params → Option Reason)). find_map (λ test. test i k p) ts in
    let soon = first_none (too_soon i k p) (rest (bad_field ∷ too_late ∷ too_far ∷ too_distant ∷ in_the_way ∷ [])) h in
    let field = first_none (bad_field i k p) (rest (too_late ∷ too_far ∷ too_distant ∷ in_the_way ∷ [])) soon.1 in
    let late = first_none (too_late i k p) (rest (too_far ∷ too_distant ∷ in_the_way ∷ [])) field.1 in
    let far = first_none (too_far i k p) (rest (too_distant ∷ in_the_way ∷ [])) late.1 in (
      map_none (λ f. reason.Bad f) (bad i p) field.0,
      not_so (nat_le p.arrive (k.now + i.times.edge)) (reason.Late k.now) late.0,
      not_so (ends_beyond i k p (judged i p)) (reason.Far (k.now + i.times.horizon)) far.0,
    )

asking_grants : (i : Intersection) (k : Known) (b : Body) (p : Params) → is_confirm (answer_asking i k b p) ≡ true → IsGranted i k p (answer_asking i k b p)
asking_grants i k b p h =
    let o = refused_or-confirm i k p (option_or (own_refusal i k b) (first_reason i k p)) (answer_free i k p) h in
    let none = (first_none (own_refusal i k b) (first_reason i k p) o.0).1 in
    let t = tests_passed i k p none in
    let f = free_found i k p (judged_among i p (λ w. ((good_params i p t.0).window w).0)) t.2 o.1 in
    let parts = free_parts i k p f.0 (find-test (is_free i k p) (candidates i p) f.0 f.1) in
    record {
      passed = none;
      good = t.0;
      later = t.1;
      near = t.2;
      trial = f.0;
      chosen = f.1;
      among = find-in (is_free i k p) (candidates i p) f.0 f.1;
      within = parts.0;
      free = parts.1;
      form = o.2 ∙ f.2;
    }

stopped_or : (b : Bool) (r : Reply) → is_confirm (if b then reply.EmergencyStop else r) ≡ true → (is_confirm r ≡ true) × ((if b then reply.EmergencyStop else r) ≡ r)
stopped_or true r h = absurd (cc)
stopped_or false r h = (h, refl)

some_same : (p q : Params) → Some p ≡ Some q → p ≡ q
some_same p q h = cc

-- a Confirm answers a message that asks
pub confirmed_asks : (i : Intersection) (k : Known) (b : Body) → is_confirm (answer_fresh i k b) ≡ true → (p : Params) × (params_of b ≡ Some p)
confirmed_asks i k (body.Cancel id) e = absurd (cc)
confirmed_asks i k (body.Done id) e = absurd (cc)
confirmed_asks i k (body.Request p) e = (p, refl)
confirmed_asks i k (body.Change id p) e = (p, refl)

pub fresh_grants : (i : Intersection) (k : Known) (b : Body) (p : Params) → params_of b ≡ Some p → is_confirm (answer_fresh i k b) ≡ true → IsGranted i k p (answer_fresh i k b)
fresh_grants i k (body.Cancel id) p e h = absurd (cc)
fresh_grants i k (body.Done id) p e h = absurd (cc)
fresh_grants i k (body.Request q) p e h =
    let s = stopped_or k.stopped (answer_asking i k (body.Request q) q) h in
    subst (λ x. IsGranted i k x (answer_fresh i k (body.Request q))) (some_same q p e)
    (subst (IsGranted i k q) (sym s.1) (asking_grants i k (body.Request q) q s.0))
fresh_grants i k (body.Change id q) p e h =
    let s = stopped_or k.stopped (answer_asking i k (body.Change id q) q) h in
    subst (λ x. IsGranted i k x (answer_fresh i k (body.Change id q))) (some_same q p e)
    (subst (IsGranted i k q) (sym s.1) (asking_grants i k (body.Change id q) q s.0))
