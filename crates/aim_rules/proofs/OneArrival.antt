-- Requests with one arrival, as those of versions 1 to 3 are, in words of the two trials there: for the crates that
-- know no window.
use Rattle.std.proofs.Common.{◌≡◌, ℕ, ◌+◌, ◌<◌, ◌≤◌, Bool, true, false, ◌&&◌, not, nat_le, List, [], ◌∷◌, ◌++◌, Option, Some, None, is_none, arith, refl, sym, ap, subst, ◌∙◌, inl, inr, if◌then◌else◌}
use Rattle.std.specs.Prelude.{find, option_and_then}
use Rattle.std.specs.List.{list_any}
use Rattle.std.specs.Option.{option_or}
use Rattle.std.proofs.lemmas.Bool.Decides.{nat_tests}
use Rattle.aim_messages.specs.declared.messages.Params.{Params}
use Rattle.aim_messages.specs.declared.messages.Message.{Message}
use Rattle.aim_messages.specs.declared.messages.Body.{Body}
use Rattle.aim_messages.specs.declared.entries.Act.{Act}
use Rattle.aim_messages.specs.declared.entries.Act.TheVariants as act
use Rattle.aim_messages.specs.declared.entries.Entry.{Entry}
use Rattle.aim_messages.specs.declared.replies.Reason.{Reason}
use Rattle.aim_messages.specs.declared.replies.Reply.{Reply}
use Rattle.aim_messages.specs.declared.replies.Reply.TheVariants as reply
use Rattle.aim_geometry.specs.Cells.{Cell}
use Rattle.aim_layout.specs.Intersection.{Intersection}
use Rattle.aim_rules.specs.Cells.{IsIn, cells, in_cells}
use Rattle.aim_rules.specs.Trials.{Trial, arriving_at, candidates, fast_first, granted_trial, has_windows, in_trial, is_fast_made, judged, trial_cells}
use Rattle.aim_rules.specs.Bad.{bad}
use Rattle.aim_rules.specs.History.{Fresh, fresh, is_confirm, is_fresh, is_fresh_seq, message_of, params_at, params_of}
use Rattle.aim_rules.specs.Holds.{granted, granted_with, is_fast, is_granted, is_granted_with}
use Rattle.aim_rules.specs.Known.{Known, known_after}
use Rattle.aim_rules.specs.Answer.{answer, answer_asking, answer_free, confirmation, ends_beyond, first_blocked, first_reason, granted_or_refused, is_free, own_refusal, refused_or}
use Rattle.aim_rules.specs.Legal.{IsLegal}
use Rattle.aim_rules.specs.Windows.{two_trials}
use Rattle.aim_rules.proofs.TestLemmas.{is_most}
use Rattle.aim_rules.proofs.CellLemmas.{cells_has, cells_needed}
use Rattle.aim_rules.proofs.Lists.{from_front, IsIn-snoc, some_passes}
use Rattle.aim_rules.proofs.SlowerLemmas.{slower}
use Rattle.aim_rules.proofs.GrantLemmas.{IsGranted, grants_trial, starts_there, tests_passed}
use Rattle.aim_rules.proofs.AheadLemmas.{grants_of, none_passes}
use Rattle.aim_rules.proofs.LegalLemmas.{IsLegal-before}
use Rattle.aim_rules.proofs.HistoryLemmas.{served}
use Rattle.aim_rules.proofs.HistoryLaws.{fresh-one, fresh-none}
use Rattle.aim_rules.proofs.TakenLaws.{last_legal}

some_same : {X : Type 0} (a b : X) → Some a ≡ Some b → a ≡ b
some_same a b p = cc

abbrev pub fast_at : Params → Trial
fast_at p = record { start = p.arrive; fast = true }

abbrev pub steady_at : Params → Trial
steady_at p = record { start = p.arrive; fast = false }

pub one_arrival : (i : Intersection) (p : Params) → has_windows i ≡ false → candidates i p ≡ fast_first p ++ steady_at p ∷ []
one_arrival i p one = rw one refl

-- which judges the request
pub judged_steady : (i : Intersection) (p : Params) → has_windows i ≡ false → judged i p ≡ steady_at p
judged_steady i p one = λ j. record { start = p.arrive; fast = one j && is_fast_made p }

-- What a Confirm rests on, in these words: the trial that the reply names, at the arrival.
pub record IsGrantedThere (i : Intersection) (k : Known) (p : Params) (r : Reply) : Type 0 where
  pub good : bad i p ≡ None
  pub later : nat_le p.arrive (k.now + i.times.edge) ≡ false
  pub near : list_any (λ c. nat_le (k.now + i.times.horizon) c.step) (cells i p false) ≡ false
  pub made : is_fast r ≡ true → is_fast_made p ≡ true
  pub trial : granted_trial r ≡ Some (record { start = p.arrive; fast = is_fast r })
  pub free : first_blocked i k p (record { start = p.arrive; fast = is_fast r }) ≡ None
  pub form : r ≡ confirmation i k p (record { start = p.arrive; fast = is_fast r })

-- a fast trial is granted only where it is made
fast_made : (p : Params) (b : Bool) (t : Trial) → is_fast_made p ≡ b → IsIn t ((if b then fast_at p ∷ [] else []) ++ steady_at p ∷ []) → t.fast ≡ true → is_fast_made p ≡ true
fast_made p true t e m f = e
fast_made p false t e (inl s) f = absurd (let n : t.fast ≡ false = ap (λ (t : Trial). t.fast) s in cc)
fast_made p false t e (inr m) f = absurd m

pub granted_at_arrival : (i : Intersection) (k : Known) (p : Params) (r : Reply) → has_windows i ≡ false → IsGranted i k p r → IsGrantedThere i k p r
granted_at_arrival i k p r one g =
    let trial = grants_trial i k p r g in
    let fast : is_fast r ≡ g.trial.fast = ap is_fast g.form in
    let same : g.trial ≡ record { start = p.arrive; fast = is_fast r } = λ j. record { start = starts_there i p g.trial one g.among j; fast = sym fast j } in
    record {
      good = g.good;
      later = g.later;
      near = subst (λ t. ends_beyond i k p t ≡ false) (judged_steady i p one) g.near;
      made = λ is. fast_made p (is_fast_made p) g.trial refl (subst (IsIn g.trial) (one_arrival i p one) g.among) (sym fast ∙ is);
      trial = trial ∙ ap Some same;
      free = subst (λ t. first_blocked i k p t ≡ None) same g.free;
      form = g.form ∙ ap (confirmation i k p) same;
    }

-- where no test gives a reason, the steady trial ends before the horizon
pub near_steady : (i : Intersection) (k : Known) (p : Params) → has_windows i ≡ false → ends_beyond i k p (judged i p) ≡ false → list_any (λ c. nat_le (k.now + i.times.horizon) c.step) (cells i p false) ≡ false
near_steady i k p one near = subst (λ t. ends_beyond i k p t ≡ false) (judged_steady i p one) near

-- where the steady trial ends before the horizon, so does the fast one
pub fast_near : (i : Intersection) (k : Known) (p : Params) → 0 < i.grid.spacing → i.times.early ≤ i.times.edge → i.times.late ≤ i.times.edge → bad i p ≡ None → ends_beyond i k p (steady_at p) ≡ false → ends_beyond i k p (fast_at p) ≡ false
fast_near i k p spaced before after good near = go (ends_beyond i k p (fast_at p)) refl
  where
    go : (b : Bool) → ends_beyond i k p (fast_at p) ≡ b → b ≡ false
    go false e = refl
    go true e = absurd (
        let x = some_passes (λ c. nat_le (k.now + i.times.horizon) c.step) (trial_cells i p (fast_at p)) e in
        let l = slower i p x.0 spaced good (cells_needed i (arriving_at p p.arrive) true x.0 x.1) in
        let later = l.1 in
        let far = is_most (k.now + i.times.horizon) x.0.step x.2 in
        let near_by = none_passes (λ c. nat_le (k.now + i.times.horizon) c.step) (trial_cells i p (steady_at p)) (record x.0 { step = l.0 }) near
        (cells_has i (arriving_at p p.arrive) false (record x.0 { step = l.0 }) before after l.2) in
        grind (arith, nat_tests))

found_two : (q : Trial → Bool) (a b : Trial) (made : Bool) → find q ((if made then a ∷ [] else []) ++ b ∷ []) ≡ (if made && q a then Some a else if q b then Some b else None)
found_two q a b true = refl
found_two q a b false = refl

-- so the first that is free is the first that isn't blocked
pub free_two : (i : Intersection) (k : Known) (p : Params) → 0 < i.grid.spacing → i.times.early ≤ i.times.edge → i.times.late ≤ i.times.edge → has_windows i ≡ false → first_reason i k p ≡ None → answer_free i k p ≡ two_trials i k p
free_two i k p spaced before after one passed =
    ap (granted_or_refused i k p) (ap (find (is_free i k p)) (one_arrival i p one) ∙ found_two (is_free i k p) (fast_at p) (steady_at p) (is_fast_made p) ∙ (λ j. if is_fast_made p && free_fast j then Some (fast_at p) else if free_steady j then Some (steady_at p) else None))
    ∙ go (is_fast_made p) (first_blocked i k p (fast_at p)) (first_blocked i k p (steady_at p)) refl
  where
    same : judged i p ≡ steady_at p
    same = judged_steady i p one

    near : ends_beyond i k p (steady_at p) ≡ false
    near = subst (λ t. ends_beyond i k p t ≡ false) same (tests_passed i k p passed).2

    free_steady : is_free i k p (steady_at p) ≡ is_none (first_blocked i k p (steady_at p))
    free_steady = ap (λ b. not b && is_none (first_blocked i k p (steady_at p))) near

    free_fast : is_free i k p (fast_at p) ≡ is_none (first_blocked i k p (fast_at p))
    free_fast = ap (λ b. not b && is_none (first_blocked i k p (fast_at p))) (fast_near i k p spaced before after (tests_passed i k p passed).0 near)

    refused : (v : Reason) → first_blocked i k p (steady_at p) ≡ Some v → granted_or_refused i k p None ≡ refused_or i k p (Some v) (confirmation i k p (steady_at p))
    refused v e = ap (λ o. refused_or i k p o (confirmation i k p (judged i p))) (ap (first_blocked i k p) same ∙ e)

    go : (made : Bool) (x y : Option Reason) → first_blocked i k p (steady_at p) ≡ y →
        granted_or_refused i k p (if made && is_none x then Some (fast_at p) else if is_none y then Some (steady_at p) else None) ≡ (if made && is_none x then confirmation i k p (fast_at p) else refused_or i k p y (confirmation i k p (steady_at p)))
    go true None y e = refl
    go true (Some w) None e = refl
    go true (Some w) (Some v) e = refused v e
    go false x None e = refl
    go false x (Some v) e = refused v e

-- A request with one arrival is answered by its two trials.
pub two_trials-answer : (i : Intersection) (k : Known) (b : Body) (p : Params) → 0 < i.grid.spacing → i.times.early ≤ i.times.edge → i.times.late ≤ i.times.edge → has_windows i ≡ false →
    answer_asking i k b p ≡ refused_or i k p (option_or (own_refusal i k b) (first_reason i k p)) (two_trials i k p)
two_trials-answer i k b p spaced before after one = go (own_refusal i k b) (first_reason i k p) refl
  where
    go : (x o : Option Reason) → first_reason i k p ≡ o → refused_or i k p (option_or x o) (answer_free i k p) ≡ refused_or i k p (option_or x o) (two_trials i k p)
    go (Some w) o passed = refl
    go None (Some w) passed = refl
    go None None passed = free_two i k p spaced before after one passed

-- its cells are those of its params
pub cells-arrive : (i : Intersection) (p : Params) (fast : Bool) → trial_cells i p (record { start = p.arrive; fast = fast }) ≡ cells i p fast
cells-arrive i p fast = refl

pub in_cells-arrive : (i : Intersection) (p : Params) (fast : Bool) (c : Cell) → in_trial i p (record { start = p.arrive; fast = fast }) c ≡ in_cells i p fast c
in_cells-arrive i p fast c = refl

-- and it is granted at its arrival
pub starts_as_asked : (i : Intersection) (h : List Entry) (v moment : ℕ) (m : Message) (p : Params) (t : Trial) → has_windows i ≡ false →
    is_fresh_seq h v m.seq ≡ true → params_of m.body ≡ Some p → granted_trial (answer i h v moment (act.Message m)) ≡ Some t → t.start ≡ p.arrive
starts_as_asked i h v moment m p t one new asks said =
    let g = grants_of i h v moment m p new asks (trial_confirms (answer i h v moment (act.Message m)) t said) in
    let same : g.trial ≡ t = some_same g.trial t (sym (grants_trial i (known_after i h v moment) p (answer i h v moment (act.Message m)) g) ∙ said) in
    subst (λ (t : Trial). t.start ≡ p.arrive) same (starts_there i p g.trial one g.among)
  where
    trial_confirms : (r : Reply) (t : Trial) → granted_trial r ≡ Some t → is_confirm r ≡ true
    trial_confirms (reply.Confirm id start early late fast end) t e = refl
    trial_confirms _ t e = absurd (cc)

pub granted_of_reply : (i : Intersection) (p : Params) (r : Reply) → granted_trial r ≡ Some (record { start = p.arrive; fast = is_fast r }) → granted_with i (granted_trial r) (Some p) ≡ cells i p (is_fast r)
granted_of_reply i p r is = ap (λ t. granted_with i t (Some p)) is ∙ cells-arrive i p (is_fast r)

pub needs_of_reply : (i : Intersection) (p : Params) (r : Reply) (c : Cell) → granted_trial r ≡ Some (record { start = p.arrive; fast = is_fast r }) → is_granted_with i (granted_trial r) c (Some p) ≡ in_cells i p (is_fast r) c
needs_of_reply i p r c is = ap (λ t. is_granted_with i t c (Some p)) is ∙ in_cells-arrive i p (is_fast r) c

-- a fresh message of a legal history has the answer after those before it
pub record IsServed (i : Intersection) (x : Fresh) (before : List Entry) (m : Message) : Type 0 where
  pub message : x.entry.act ≡ act.Message m
  pub fresh : is_fresh_seq before x.entry.caller m.seq ≡ true
  pub answered : x.entry.reply ≡ answer i before x.entry.caller x.entry.moment (act.Message m)

pub served_legal : (i : Intersection) (vehicles : ℕ) (h : List Entry) (x : Fresh) → IsLegal i vehicles h → IsIn x (fresh h) → (before : List Entry) × (m : Message) × IsServed i x before m
served_legal i vehicles h x legal m = from_front (λ h. IsLegal i vehicles h → IsIn x (fresh h) → (before : List Entry) × (m : Message) × IsServed i x before m) (λ g n. absurd n)
    (λ h e earlier g n. go h e e.act (earlier (IsLegal-before i vehicles h (e ∷ []) g)) g refl (is_fresh h e) refl n) h legal m
  where
    go : (h : List Entry) (e : Entry) (a : Act) → (IsIn x (fresh h) → (before : List Entry) × (m : Message) × IsServed i x before m) → IsLegal i vehicles (h ++ e ∷ []) → e.act ≡ a → (b : Bool) → is_fresh h e ≡ b → IsIn x (fresh (h ++ e ∷ [])) →
        (before : List Entry) × (m : Message) × IsServed i x before m
    go h e a earlier legal is false f n = earlier (rw (fresh-none h e f) at n)
    go h e (act.Order o) earlier legal is true f n = absurd (let g : false ≡ true = rw is at f in cc)
    go h e (act.Message m) earlier legal is true f n = elim (IsIn-snoc (fresh h) (served h e) x (rw (fresh-one h e f) at n)) [
      | inl a ↦ earlier a
      | inr s ↦ (h, m, subst (λ x. IsServed i x h m) (sym s) (record { message = is; fresh = rw is at f; answered = rw is at (last_legal i vehicles h e legal).0 }))
    ]

-- In versions 1 to 3 what a legal history grants starts at the arrival that was asked for, and has the cells of its
-- params.
pub granted_start : (i : Intersection) (vehicles : ℕ) (h : List Entry) (x : Fresh) (p : Params) (t : Trial) → has_windows i ≡ false → IsLegal i vehicles h → IsIn x (fresh h) → params_at x ≡ Some p → granted_trial x.entry.reply ≡ Some t → t.start ≡ p.arrive
granted_start i vehicles h x p t one legal m asks said =
    let s = served_legal i vehicles h x legal m in
    let is : params_of s.1.body ≡ Some p = ap (λ a. option_and_then (λ (m : Message). params_of m.body) (message_of a)) (sym s.2.message) ∙ asks in
    starts_as_asked i s.0 x.entry.caller x.entry.moment s.1 p t one s.2.fresh is (ap granted_trial (sym s.2.answered) ∙ said)

pub granted_cells : (i : Intersection) (vehicles : ℕ) (h : List Entry) (x : Fresh) (p : Params) (t : Trial) → has_windows i ≡ false → IsLegal i vehicles h → IsIn x (fresh h) → params_at x ≡ Some p → granted_trial x.entry.reply ≡ Some t → granted i x ≡ cells i p t.fast
granted_cells i vehicles h x p t one legal m asks said =
    let start = granted_start i vehicles h x p t one legal m asks said in
    (λ j. granted_with i (said j) (asks j)) ∙ (λ j. trial_cells i p (record { start = start j; fast = t.fast })) ∙ cells-arrive i p t.fast

pub granted_needs : (i : Intersection) (vehicles : ℕ) (h : List Entry) (x : Fresh) (p : Params) (t : Trial) (c : Cell) → has_windows i ≡ false → IsLegal i vehicles h → IsIn x (fresh h) → params_at x ≡ Some p → granted_trial x.entry.reply ≡ Some t → is_granted i x c ≡ in_cells i p t.fast c
granted_needs i vehicles h x p t c one legal m asks said =
    let start = granted_start i vehicles h x p t one legal m asks said in
    (λ j. is_granted_with i (said j) c (asks j)) ∙ (λ j. in_trial i p (record { start = start j; fast = t.fast }) c) ∙ in_cells-arrive i p t.fast c
