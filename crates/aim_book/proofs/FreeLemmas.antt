-- The answer to a request that only the cells of its crossing can refuse.
use Rattle.std.proofs.Common.{◌≡◌, ℕ, ◌+◌, ◌-◌, ◌*◌, ◌<◌, ◌≤◌, subst, Bool, true, false, ◌&&◌, nat_le, List, Option, Some, None, refl, sym, ◌∙◌, ap, arith}
use Rattle.std.specs.Prelude.{is_none, min, option_and_then, option_map, if◌then◌else◌}
use Rattle.std.specs.Option.{option_or}
use Rattle.std.proofs.Math.Nat.{min-eq_left}
use Rattle.aim_messages.specs.declared.messages.Body.{Body}
use Rattle.aim_messages.specs.declared.messages.Params.{Params}
use Rattle.aim_messages.specs.declared.replies.Field.{Field}
use Rattle.aim_messages.specs.declared.replies.Field.TheVariants as field
use Rattle.aim_messages.specs.declared.replies.Reason.{Reason}
use Rattle.aim_messages.specs.declared.replies.Reply.{Reply}
use Rattle.aim_layout.specs.Intersection.{Intersection}
use Rattle.aim_layout.specs.Valid.{IsValid}
use Rattle.aim_sheets.specs.declared.spans.Span.{Span}
use Rattle.aim_sheets.specs.Sheets.{Spans}
use Rattle.aim_tiles.specs.Sheets.{AreTiles}
use Rattle.aim_requests.specs.Fields.{IsTried, bad_crossing}
use Rattle.aim_requests.proofs.FieldLemmas.{fields}
use Rattle.aim_requests.proofs.GoodLemmas.{good_crossing}
use Rattle.aim_requests.specs.Cells.{HaveCells}
use Rattle.aim_requests.specs.Requests.{Request, fast_sheet, steady_sheet}
use Rattle.aim_requests.specs.declared.requests.TrialSteps.{TrialSteps}
use Rattle.aim_requests.proofs.SpanLemmas.{some_steps}
use Rattle.aim_rules.specs.Bad.{bad, needs_too_many_spans}
use Rattle.aim_rules.specs.Trials.{Trial, granted_trial, has_windows, is_fast_made}
use Rattle.aim_rules.specs.Footprint.{crossing_steps}
use Rattle.aim_rules.specs.Known.{Known}
use Rattle.aim_rules.specs.Windows.{two_trials}
use Rattle.aim_rules.specs.Answer.{answer_asking, answer_free, confirmation, first_blocked, first_reason, own_refusal, refusal, refused_or}
use Rattle.aim_rules.proofs.CellLemmas.{cells_inside}
use Rattle.aim_rules.proofs.OneArrival.{free_two}
use Rattle.aim_rules.proofs.GoodLemmas.{good_params as good_bounds}
use Rattle.aim_book.specs.Asking.{HasGoneTo, IsAsking}
use Rattle.aim_book.specs.Costs.{starts_tried}
use Rattle.aim_reservations.specs.Blocking.{AreAsked}
use Rattle.aim_book.specs.Desk.{Tells}
use Rattle.aim_book.specs.declared.desks.Desk.{Desk}
use Rattle.aim_book.proofs.EarlyLemmas.{good_params, steady_some}

-- the cells of a crossing are of tiles of the grid
pub tiles_of : (i : Intersection) (p : Params) (fast : Bool) (spans : List Span) → HaveCells i p fast spans → AreTiles i.grid.n spans
tiles_of i p fast spans have = λ c t. cells_inside i p fast c (sym (have c) ∙ t)

-- the sheet of the fast trial
pub fast_is : (i : Intersection) (p : Params) (r : Request) (sheet : Spans) → IsAsking i p r → bad i p ≡ None → Some sheet ≡ fast_sheet r → (is_fast_made p ≡ true) × HaveCells i p true sheet.spans
fast_is i p r sheet asking good at = go (is_fast_made p) refl (at ∙ ap (λ o. option_and_then (λ q. if is_fast_made q then Some r.first else None) o) (good_params i p r asking good))
  where
    go : (b : Bool) → is_fast_made p ≡ b → Some sheet ≡ (if is_fast_made p then Some r.first else None) → (is_fast_made p ≡ true) × HaveCells i p true sheet.spans
    go false e f = absurd (let q : Some sheet ≡ None = rw e at f in cc)
    go true e f = (e, (let q : Some sheet ≡ Some r.first = rw e at f in let s : sheet ≡ r.first = cc in rw s (asking.prepared.fast p (good_params i p r asking good) e).cells))

-- it is the first one
pub fast_first : (i : Intersection) (p : Params) (r : Request) (sheet : Spans) → IsAsking i p r → bad i p ≡ None → Some sheet ≡ fast_sheet r → sheet ≡ r.first
fast_first i p r sheet asking good at = go (is_fast_made p) (at ∙ ap (λ o. option_and_then (λ q. if is_fast_made q then Some r.first else None) o) (good_params i p r asking good))
  where
    go : (b : Bool) → Some sheet ≡ (if b then Some r.first else None) → sheet ≡ r.first
    go false e = absurd (cc)
    go true e = cc

-- where there is none, the fast trial isn't made
pub fast_none : (i : Intersection) (p : Params) (r : Request) → IsAsking i p r → bad i p ≡ None → None ≡ fast_sheet r → is_fast_made p ≡ false
fast_none i p r asking good at = go (is_fast_made p) (at ∙ ap (λ o. option_and_then (λ q. if is_fast_made q then Some r.first else None) o) (good_params i p r asking good))
  where
    go : (b : Bool) → None ≡ (if b then Some r.first else None) → b ≡ false
    go false e = refl
    go true e = absurd (cc)

-- the crossing steps of the fast trial, where that is made
pub fast_steps : (i : Intersection) (p : Params) (r : Request) (s : TrialSteps) → IsAsking i p r → bad i p ≡ None → is_fast_made p ≡ true → s ≡ r.steps → s.fast ≡ crossing_steps i p true
fast_steps i p r s asking good made is =
    (λ j. (is j).fast) ∙ (asking.prepared.steps p (good_params i p r asking good)).fast ∙ ap (λ (b : Bool). if b then crossing_steps i p true else 0) made

-- the crossing steps of the steady trial
pub steady_steps : (i : Intersection) (p : Params) (r : Request) (s : TrialSteps) → has_windows i ≡ false → IsAsking i p r → bad i p ≡ None → s ≡ r.steps → s.steady ≡ crossing_steps i p false
steady_steps i p r s one asking good is =
    (λ j. (is j).steady) ∙ (asking.prepared.steps p (good_params i p r asking good)).steady ∙ ap (λ b. if b && is_fast_made p then 0 else crossing_steps i p false) one

-- a good request has a sheet of the steady trial
pub never_none : {S : Type 0} (i : Intersection) (p : Params) (r : Request) (seen : S → Spans) (o : Option S) → IsAsking i p r → bad i p ≡ None → option_map seen o ≡ steady_sheet r → o ≡ None → ⊥
never_none i p r seen o asking good told none = steady_some i p r asking good (sym (ap (λ q. option_map seen q) none) ∙ told)

-- no field of the crossing is bad
pub good_alone : (i : Intersection) (p : Params) → bad i p ≡ None → bad_crossing i p ≡ None
good_alone i p good = go (bad_crossing i p) (sym (fields i p) ∙ good)
  where
    go : (o : Option Field) → option_or o (if needs_too_many_spans i p then Some field.Spans else None) ≡ None → o ≡ None
    go None e = refl
    go (Some f) e = absurd (cc)

-- where requests have one arrival each trial is tried, where they have windows the one that is made
pub tried_two : (i : Intersection) (p : Params) (fast : Bool) → has_windows i ≡ false → IsTried i p fast
tried_two i p fast one = λ windows. absurd (cc)

pub tried_alone : (i : Intersection) (p : Params) (fast : Bool) → is_fast_made p ≡ fast → IsTried i p fast
tried_alone i p fast made = λ windows. sym made

-- the step at which a crossing ends fits
pub ends_within : (i : Intersection) (p : Params) (fast : Bool) → IsTried i p fast → bad i p ≡ None → (0 < crossing_steps i p fast) × (p.arrive + crossing_steps i p fast < 4294967296)
ends_within i p fast tried good =
    let bounds = good_bounds i p good in
    let few = (good_crossing i p (good_alone i p good)).steps fast tried in
    let arrive = bounds.arrive in
    (some_steps i p fast (let s = bounds.speed.0 in omega arith) bounds.speed.1, omega arith)

pub asked_of : {L : Type 0} (i : Intersection) (v place : ℕ) (k : Known) (p : Params) (fast : Bool) (spans : List Span) (d : Desk L) → Tells i v place k d → HaveCells i p fast spans → nat_le p.arrive (d.reservations.table.current + i.times.edge) ≡ false → AreAsked i k p fast spans
asked_of i v place k p fast spans d tells have ahead = record { cells = have; ahead = rw tells.now ahead }

pub free_fast : (i : Intersection) (k : Known) (p : Params) (b : Bool) (r : Reply) → b ≡ (is_fast_made p && is_none (first_blocked i k p (record { start = p.arrive; fast = true }))) → b ≡ true → r ≡ confirmation i k p (record { start = p.arrive; fast = true }) → r ≡ two_trials i k p
free_fast i k p b r told free is = rw (← told, free) is

pub free_refused : (i : Intersection) (k : Known) (p : Params) (b : Bool) (r : Reply) (why : Reason) (o : Option Reason) → b ≡ (is_fast_made p && is_none (first_blocked i k p (record { start = p.arrive; fast = true }))) → b ≡ false → o ≡ first_blocked i k p (record { start = p.arrive; fast = false }) → o ≡ Some why → r ≡ refusal i k p.arrive why → r ≡ two_trials i k p
free_refused i k p b r why o told not found some is = rw (← told, not, ← found, some) is

pub free_steady : (i : Intersection) (k : Known) (p : Params) (b : Bool) (r : Reply) (o : Option Reason) → b ≡ (is_fast_made p && is_none (first_blocked i k p (record { start = p.arrive; fast = true }))) → b ≡ false → o ≡ first_blocked i k p (record { start = p.arrive; fast = false }) → o ≡ None → r ≡ confirmation i k p (record { start = p.arrive; fast = false }) → r ≡ two_trials i k p
free_steady i k p b r o told not found none is = rw (← told, not, ← found, none) is

pub asked_own : (i : Intersection) (k : Known) (b : Body) (p : Params) (o : Option Reason) (why : Reason) (r : Reply) → o ≡ own_refusal i k b → o ≡ Some why → r ≡ refusal i k p.arrive why → r ≡ answer_asking i k b p
asked_own i k b p o why r own some is = rw (← own, some) is

pub asked_early : (i : Intersection) (k : Known) (b : Body) (p : Params) (o e : Option Reason) (why : Reason) (r : Reply) → o ≡ own_refusal i k b → o ≡ None → e ≡ first_reason i k p → e ≡ Some why → r ≡ refusal i k p.arrive why → r ≡ answer_asking i k b p
asked_early i k b p o e why r own none early some is = rw (← own, none, ← early, some) is

pub asked_free : (i : Intersection) (k : Known) (b : Body) (p : Params) (o e : Option Reason) (r : Reply) → o ≡ own_refusal i k b → o ≡ None → e ≡ first_reason i k p → e ≡ None → r ≡ answer_free i k p → r ≡ answer_asking i k b p
asked_free i k b p o e r own none early free is = is ∙ sym (λ j. refused_or i k p (option_or ((sym own ∙ none) j) ((sym early ∙ free) j)) (answer_free i k p))

-- a refusal grants no trial
pub refused_grants : (i : Intersection) (k : Known) (arrive : ℕ) (why : Reason) (r : Reply) (t : Trial) → r ≡ refusal i k arrive why → granted_trial r ≡ Some t → ⊥
refused_grants i k arrive why r t is named = absurd (let e : None ≡ Some t = sym (ap granted_trial is) ∙ named in cc)

same_start : (a b : Trial) → Some a ≡ Some b → b.start ≡ a.start
same_start a b e = (let q : a ≡ b = cc in sym (ap (λ (t : Trial). t.start) q))

-- the trial that is granted of two starts at the arrival
pub two_start : (i : Intersection) (k : Known) (p : Params) (t : Trial) → granted_trial (two_trials i k p) ≡ Some t → t.start ≡ p.arrive
two_start i k p t named = go (is_fast_made p && is_none (first_blocked i k p (record { start = p.arrive; fast = true }))) (first_blocked i k p (record { start = p.arrive; fast = false })) named
  where
    go : (b : Bool) (o : Option Reason) → granted_trial (if b then confirmation i k p (record { start = p.arrive; fast = true }) else refused_or i k p o (confirmation i k p (record { start = p.arrive; fast = false }))) ≡ Some t → t.start ≡ p.arrive
    go true o e = same_start (record { start = p.arrive; fast = true }) t e
    go false None e = same_start (record { start = p.arrive; fast = false }) t e
    go false (Some why) e = absurd (let f : None ≡ Some t = e in cc)

-- so the request has gone on to it
pub two_gone : (i : Intersection) (k : Known) (p : Params) (r : Reply) (t : Trial) (g : Request) → r ≡ two_trials i k p → granted_trial r ≡ Some t → IsAsking i p g → bad i p ≡ None → HasGoneTo i p t.start g
two_gone i k p r t g is named asking good =
    subst (λ s. HasGoneTo i p s g) (sym (two_start i k p t (sym (ap granted_trial is) ∙ named))) (record { latest = p.latest; asking = asking; good = good })

-- the answer by two trials
pub two_answer : (i : Intersection) (k : Known) (p : Params) (r : Reply) → IsValid i → has_windows i ≡ false → r ≡ two_trials i k p → first_reason i k p ≡ None → r ≡ answer_free i k p
two_answer i k p r valid one is passed = is ∙ sym (free_two i k p valid.sound.grid.some_spacing valid.sound.times.early valid.sound.times.late one passed)

pub one_tried : (i : Intersection) (p : Params) (after before a b : ℕ) → has_windows i ≡ false → after ≤ before + a + b → after ≤ before + starts_tried i (Some p) * (a + b)
one_tried i p after before a b one l =
    let e : starts_tried i (Some p) ≡ 1 = (λ j. if one j then min (p.latest - p.arrive) i.times.horizon + 1 else 1) in
    subst (λ n. after ≤ before + n * (a + b)) (sym e) (omega arith)

-- no window is longer than the horizon
pub window_tried : (i : Intersection) (p : Params) (after before a : ℕ) → IsValid i → bad i p ≡ None → has_windows i ≡ true → after ≤ before + (p.latest + 1 - p.arrive) * a → after ≤ before + starts_tried i (Some p) * a
window_tried i p after before a valid good many l =
    let window = (good_bounds i p good).window many in
    let low = window.0 in
    let high = window.2 in
    let longest = valid.sound.times.window in
    let all : min (p.latest - p.arrive) i.times.horizon ≡ p.latest - p.arrive = min-eq_left (omega arith) in
    let one : p.latest - p.arrive + 1 ≡ p.latest + 1 - p.arrive = omega arith in
    let e : starts_tried i (Some p) ≡ p.latest + 1 - p.arrive = (λ j. if many j then min (p.latest - p.arrive) i.times.horizon + 1 else 1) ∙ ap (λ n. n + 1) all ∙ one in
    subst (λ n. after ≤ before + n * a) (sym e) l
