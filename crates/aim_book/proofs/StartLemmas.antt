-- The starts of a window of arrivals.
use Rattle.std.proofs.Common.{◌≡◌, ℕ, zero, suc, map, ◌+◌, ◌-◌, ◌*◌, ◌<◌, ◌≤◌, Bool, true, false, ◌&&◌, ◌||◌, not, nat_le, length, List, [], ◌∷◌, ◌++◌, Option, Some, None, refl, sym, ◌∙◌, ap, arith, subst, le-leb, le-ltb}
use Rattle.std.specs.Prelude.{find, is_none, option_map, if◌then◌else◌}
use Rattle.std.proofs.lemmas.Bool.{and_parts, leb-false, leb-true, lt-leb}
use Rattle.std.specs.List.{list_any, range_with_len}
use Rattle.std.proofs.Math.Decide.{dec_lt}
use Rattle.std.proofs.Math.Nat.{mul-le-mul_right}
use Rattle.aim_messages.specs.declared.messages.Params.{Params}
use Rattle.aim_messages.specs.declared.entries.TheConstants.{LATEST_MOMENT}
use Rattle.aim_messages.specs.declared.replies.Reason.{Reason}
use Rattle.aim_messages.specs.declared.replies.Reply.{Reply}
use Rattle.aim_geometry.specs.Cells.{Cell}
use Rattle.aim_layout.specs.Intersection.{Intersection}
use Rattle.aim_sheets.specs.declared.spans.Span.{Span}
use Rattle.aim_requests.specs.Requests.{IsPreparedFor, IsTrialOf, Request, prepared_params}
use Rattle.aim_requests.specs.declared.requests.TrialSteps.{TrialSteps}
use Rattle.aim_requests.specs.Shapes.{AsksAnew, arriving}
use Rattle.aim_requests.proofs.ShiftLemmas.{good_moved}
use Rattle.aim_rules.specs.Bad.{bad, has_bad_window, span_count}
use Rattle.aim_rules.specs.History.{params_of}
use Rattle.aim_rules.specs.Windows.{later, trial_at}
use Rattle.aim_rules.proofs.GoodLemmas.{good_params as good_bounds}
use Rattle.aim_rules.proofs.GrantLemmas.{is_free-both, tests_passed}
use Rattle.aim_book.specs.Asking.{HasGoneTo, IsAsking}
use Rattle.aim_rules.specs.Answer.{answer_free, confirmation, ends_beyond, first_blocked, first_reason, granted_or_refused, is_free, refusal, refused_or}
use Rattle.aim_rules.specs.Footprint.{crossing_steps}
use Rattle.aim_rules.specs.Cells.{cells}
use Rattle.aim_rules.specs.Known.{Known}
use Rattle.aim_rules.specs.Trials.{Trial, arriving_at, candidates, fast_first, granted_trial, has_windows, is_fast_made, judged, trial_cells}
use Rattle.aim_rules.proofs.WindowLaws.{cells-move}
use Rattle.aim_book.specs.Desk.{Tells}
use Rattle.aim_book.specs.declared.desks.Desk.{Desk}
use Rattle.aim_book.proofs.EarlyLemmas.{good_params}

-- the test of the sheet tells whether the trial ends beyond the horizon
pub far_start : {L : Type 0} (i : Intersection) (v place : ℕ) (k : Known) (p : Params) (d : Desk L) (now horizon : ℕ) (b : Bool) → Tells i v place k d → now ≡ d.reservations.table.current → horizon ≡ i.times.horizon →
    b ≡ list_any (λ c. nat_le (now + horizon) c.step) (cells i p (judged i p).fast) → b ≡ ends_beyond i k p (judged i p)
far_start i v place k p d now horizon b tells now_is horizon_is told =
    told ∙ (λ j. list_any (λ c. nat_le ((now_is ∙ sym tells.now) j + horizon_is j) c.step) (cells i p (judged i p).fast))

no_more : (b : Bool) → (b && false) ≡ false
no_more true = refl
no_more false = refl

-- a window of one step is not bad
pub window_one : (i : Intersection) (p : Params) (s : ℕ) → s ≤ LATEST_MOMENT → has_bad_window i (arriving p s s) ≡ false
window_one i p s last = rw (le-ltb s s (omega arith), le-ltb LATEST_MOMENT s last, le-ltb (s + i.times.window) s (omega arith)) (no_more (has_windows i))

-- a request goes on to the next start of its window
module _ (i : Intersection) (p : Params) (r : Request) (from latest current : ℕ) (many : has_windows i ≡ true) (good : bad i p ≡ None) (ahead : nat_le p.arrive (current + i.times.edge) ≡ false)
    (low : p.arrive ≤ from) (high : from < p.latest) (asking : IsAsking i (arriving p from latest) r) (good_here : bad i (arriving p from latest) ≡ None) where
  pub next_last : from + 1 ≤ LATEST_MOMENT
  next_last = let w = ((good_bounds i p good).window many).1 in omega arith

  pub from_edge : i.times.edge ≤ from
  from_edge = let l : current + i.times.edge < p.arrive = leb-false p.arrive (current + i.times.edge) ahead in omega arith

  pub next_ahead : nat_le (from + 1) (current + i.times.edge) ≡ false
  next_ahead = let l : current + i.times.edge < p.arrive = leb-false p.arrive (current + i.times.edge) ahead in lt-leb (from + 1) (current + i.times.edge) (omega arith)

  pub next_asks : AsksAnew i r from (from + 1) (option_map (λ q. arriving_at q (from + 1)) (params_of r.message.body))
  next_asks = (arriving p from latest, good_params i (arriving p from latest) r asking good_here, refl, from + 1, ap (option_map (λ q. arriving_at q (from + 1))) asking.params, window_one i p (from + 1) next_last)

  pub next_good : bad i (arriving_at p (from + 1)) ≡ None
  next_good = good_moved i (arriving p from latest) (from + 1) (from + 1) from_edge (let l = from_edge in omega arith) next_last (window_one i p (from + 1) next_last) good_here

  pub next_asking : (m : Request) → IsPreparedFor i m → params_of m.message.body ≡ option_map (λ q. arriving_at q (from + 1)) (params_of r.message.body) → IsAsking i (arriving_at p (from + 1)) m
  next_asking m prepared params = record { prepared = prepared; params = params ∙ ap (option_map (λ q. arriving_at q (from + 1))) asking.params }

-- the trial at the start is that of the request that has gone on to it
start_is : (i : Intersection) (p : Params) (s : ℕ) → has_windows i ≡ true → judged i (arriving_at p s) ≡ trial_at p s
start_is i p s many = λ j. record { start = s; fast = many j && is_fast_made p }

blocked_start : (i : Intersection) (k : Known) (p moved : Params) (s : ℕ) → has_windows i ≡ true → moved ≡ arriving_at p s → first_blocked i k moved (judged i moved) ≡ first_blocked i k p (trial_at p s)
blocked_start i k p moved s many same = (λ j. first_blocked i k (same j) (judged i (same j))) ∙ ap (first_blocked i k p) (start_is i p s many)

pub start_not : (i : Intersection) (k : Known) (p moved : Params) (s : ℕ) (free : Bool) → has_windows i ≡ true → moved ≡ arriving_at p s → free ≡ is_none (first_blocked i k moved (judged i moved)) → free ≡ false → is_free i k p (trial_at p s) ≡ false
start_not i k p moved s free many same told is =
    ap (λ o. not (ends_beyond i k p (trial_at p s)) && is_none o) (sym (blocked_start i k p moved s many same))
    ∙ ap (λ b. not (ends_beyond i k p (trial_at p s)) && b) (sym told ∙ is) ∙ no_more (not (ends_beyond i k p (trial_at p s)))

beyond_start : (i : Intersection) (k : Known) (p : Params) (s : ℕ) (beyond x : Bool) → has_windows i ≡ true → beyond ≡ ends_beyond i k (arriving_at p s) (judged i (arriving_at p s)) → beyond ≡ x → ends_beyond i k p (trial_at p s) ≡ x
beyond_start i k p s beyond x many told is = ap (ends_beyond i k p) (sym (start_is i p s many)) ∙ sym told ∙ is

pub start_free : (i : Intersection) (k : Known) (p moved : Params) (s : ℕ) (beyond free : Bool) → has_windows i ≡ true → moved ≡ arriving_at p s → beyond ≡ ends_beyond i k (arriving_at p s) (judged i (arriving_at p s)) → beyond ≡ false →
    free ≡ is_none (first_blocked i k moved (judged i moved)) → free ≡ true → is_free i k p (trial_at p s) ≡ true
start_free i k p moved s beyond free many same far not_far told is = λ j.
    (not (beyond_start i k p s beyond false many far not_far j) && (ap is_none (sym (blocked_start i k p moved s many same)) ∙ sym told ∙ is) j)

-- a trial that starts later ends later
reaches_later : (reach d : ℕ) (xs : List Cell) → list_any (λ c. nat_le reach c.step) xs ≡ true → list_any (λ c. nat_le reach c.step) (map (later d) xs) ≡ true
reaches_later reach d [] h = h
reaches_later reach d (x ∷ xs) h = go (nat_le reach x.step) refl h (reaches_later reach d xs)
  where
    always : (b : Bool) → (b || true) ≡ true
    always true = refl
    always false = refl

    go : (b : Bool) → nat_le reach x.step ≡ b → (b || list_any (λ c. nat_le reach c.step) xs) ≡ true → (list_any (λ c. nat_le reach c.step) xs ≡ true → list_any (λ c. nat_le reach c.step) (map (later d) xs) ≡ true) →
        (nat_le reach (x.step + d) || list_any (λ c. nat_le reach c.step) (map (later d) xs)) ≡ true
    go true e f next = ap (λ b. b || list_any (λ c. nat_le reach c.step) (map (later d) xs)) (le-leb reach (x.step + d) (let l = leb-true reach x.step e in omega arith))
    go false e f next = ap (λ b. nat_le reach (x.step + d) || b) (next f) ∙ always (nat_le reach (x.step + d))

-- so where the trial at one start ends beyond the horizon, none from it on is free
pub beyond_from : (i : Intersection) (k : Known) (p : Params) (s r : ℕ) (beyond : Bool) → has_windows i ≡ true → i.times.edge ≤ s → s ≤ r → beyond ≡ ends_beyond i k (arriving_at p s) (judged i (arriving_at p s)) → beyond ≡ true → is_free i k p (trial_at p r) ≡ false
beyond_from i k p s r beyond many edge from told is =
    let e : s + (r - s) ≡ r = omega (arith, from) in
    subst (λ a. is_free i k p (trial_at p a) ≡ false) e (ap (λ b. not b && is_none (first_blocked i k p (trial_at p (s + (r - s))))) far)
  where
    far : ends_beyond i k p (trial_at p (s + (r - s))) ≡ true
    far =
        ap (list_any (λ c. nat_le (k.now + i.times.horizon) c.step)) (cells-move i p s (r - s) (is_fast_made p) edge)
        ∙ reaches_later (k.now + i.times.horizon) (r - s) (trial_cells i p (trial_at p s)) (beyond_start i k p s beyond true many told is)

-- one start more that was tried
pub tried_more : (after mid before n spans one : ℕ) → after ≤ mid + one → one ≡ spans → mid ≤ before + n * spans → after ≤ before + (n + 1) * spans
tried_more after mid before n spans one a same b = omega arith

pub tried_fewer : (after before n m spans : ℕ) → n ≤ m → after ≤ before + n * spans → after ≤ before + m * spans
tried_fewer after before n m spans few l = let more : n * spans ≤ m * spans = mul-le-mul_right spans few in omega arith

-- the first start that is free is found, where none before it is
pub find_start : (q : Trial → Bool) (f : ℕ → Trial) (a n s : ℕ) → a ≤ s → s < a + n → q (f s) ≡ true → ((r : ℕ) → a ≤ r → r < s → q (f r) ≡ false) → find q (map f (range_with_len a n)) ≡ Some (f s)
find_start q f a zero s low high free before = absurd (omega arith)
find_start q f a (suc n) s low high free before = elim (dec_lt a s) [
  | yes b ↦ rw (before a (omega arith) b) (find_start q f (a + 1) n s (omega arith) (omega arith) free (λ r l h. before r (omega arith) h))
  | no b ↦ (let e : s ≡ a = omega arith in rw (ap (λ t. q (f t)) (sym e) ∙ free) (ap (λ t. Some (f t)) (sym e)))
]

pub find_none : (q : Trial → Bool) (f : ℕ → Trial) (a n : ℕ) → ((r : ℕ) → a ≤ r → r < a + n → q (f r) ≡ false) → find q (map f (range_with_len a n)) ≡ None
find_none q f a zero none = refl
find_none q f a (suc n) none = rw (none a (omega arith) (omega arith)) (find_none q f (a + 1) n (λ r l h. none r (omega arith) (omega arith)))

-- in a layout with windows the candidates are the starts of the window
candidates_are : (i : Intersection) (p : Params) → has_windows i ≡ true → candidates i p ≡ map (trial_at p) (range_with_len p.arrive (p.latest + 1 - p.arrive))
candidates_are i p many = λ j. if many j then map (trial_at p) (range_with_len p.arrive (p.latest + 1 - p.arrive)) else fast_first p ++ record { start = p.arrive; fast = false } ∷ []

judged_first : (i : Intersection) (p : Params) → has_windows i ≡ true → judged i p ≡ trial_at p p.arrive
judged_first i p many = λ j. record { start = p.arrive; fast = many j && is_fast_made p }

-- the trial is free where none of its cells is blocked, and not where one is
first_free : (i : Intersection) (k : Known) (p : Params) (o : Option Reason) → first_reason i k p ≡ None → o ≡ first_blocked i k p (judged i p) → o ≡ None → is_free i k p (judged i p) ≡ true
first_free i k p o passed found none = is_free-both i k p (judged i p) (tests_passed i k p passed).2 (sym found ∙ none)

first_not : (i : Intersection) (k : Known) (p : Params) (o : Option Reason) (why : Reason) → o ≡ first_blocked i k p (judged i p) → o ≡ Some why → is_free i k p (judged i p) ≡ false
first_not i k p o why found some = ap (λ x. not (ends_beyond i k p (judged i p)) && is_none x) (sym found ∙ some) ∙ no_more (not (ends_beyond i k p (judged i p)))

module _ (i : Intersection) (k : Known) (p : Params) (many : has_windows i ≡ true) (low : p.arrive ≤ p.latest) where
  -- a start that is free, and none before it
  pub window_granted : (s : ℕ) → p.arrive ≤ s → s ≤ p.latest → is_free i k p (trial_at p s) ≡ true → ((r : ℕ) → p.arrive ≤ r → r < s → is_free i k p (trial_at p r) ≡ false) → answer_free i k p ≡ confirmation i k p (trial_at p s)
  window_granted s from until free before =
      ap (λ ts. granted_or_refused i k p (find (is_free i k p) ts)) (candidates_are i p many)
      ∙ ap (granted_or_refused i k p) (find_start (is_free i k p) (trial_at p) p.arrive (p.latest + 1 - p.arrive) s from (omega arith) free before)

  -- no start is free
  pub window_refused : (o : Option Reason) (why : Reason) (r : Reply) → o ≡ first_blocked i k p (judged i p) → o ≡ Some why → ((s : ℕ) → p.arrive < s → s ≤ p.latest → is_free i k p (trial_at p s) ≡ false) → r ≡ refusal i k p.arrive why → r ≡ answer_free i k p
  window_refused o why r found some none is =
      is ∙ sym (
      ap (λ ts. granted_or_refused i k p (find (is_free i k p) ts)) (candidates_are i p many)
      ∙ ap (granted_or_refused i k p) (find_none (is_free i k p) (trial_at p) p.arrive (p.latest + 1 - p.arrive) each)
      ∙ ap (λ x. refused_or i k p x (confirmation i k p (judged i p))) (sym found ∙ some))
    where
      each : (s : ℕ) → p.arrive ≤ s → s < p.arrive + (p.latest + 1 - p.arrive) → is_free i k p (trial_at p s) ≡ false
      each s from until = elim (dec_lt p.arrive s) [
        | yes b ↦ none s b (omega arith)
        | no b ↦ (let e : p.arrive ≡ s = omega arith in subst (λ a. is_free i k p (trial_at p a) ≡ false) e (ap (is_free i k p) (sym (judged_first i p many)) ∙ first_not i k p o why found some))
      ]

  -- the first start is free
  pub window_first : (o : Option Reason) (r : Reply) → first_reason i k p ≡ None → o ≡ first_blocked i k p (judged i p) → o ≡ None → r ≡ confirmation i k p (judged i p) → r ≡ answer_free i k p
  window_first o r passed found none is =
      is ∙ ap (confirmation i k p) (judged_first i p many)
      ∙ sym (window_granted p.arrive (omega arith) low (sym (ap (is_free i k p) (judged_first i p many)) ∙ first_free i k p o passed found none) (λ r a b. absurd (omega arith)))

  -- a later one is, and none before it
  pub window_later : (o : Option Reason) (why : Reason) (r : Reply) (s : ℕ) (moved : Params) → o ≡ first_blocked i k p (judged i p) → o ≡ Some why → p.arrive < s → s ≤ p.latest → is_free i k p (trial_at p s) ≡ true →
      ((t : ℕ) → p.arrive < t → t < s → is_free i k p (trial_at p t) ≡ false) → moved ≡ arriving_at p s → r ≡ confirmation i k moved (judged i moved) → r ≡ answer_free i k p
  window_later o why r s moved found some from until free before same is =
      is ∙ (λ j. confirmation i k (same j) (judged i (same j))) ∙ ap (confirmation i k (arriving_at p s)) (judged_first i (arriving_at p s) many)
      ∙ sym (window_granted s (omega arith) until free each)
    where
      each : (t : ℕ) → p.arrive ≤ t → t < s → is_free i k p (trial_at p t) ≡ false
      each t a b = elim (dec_lt p.arrive t) [
        | yes l ↦ before t l b
        | no l ↦ (let e : p.arrive ≡ t = omega arith in subst (λ x. is_free i k p (trial_at p x) ≡ false) e (ap (is_free i k p) (sym (judged_first i p many)) ∙ first_not i k p o why found some))
      ]

-- the judged trial, as the request has it
pub judged_fast : (i : Intersection) (k : Known) (p : Params) (r : Reply) → has_windows i ≡ true → is_fast_made p ≡ true → r ≡ confirmation i k p (record { start = p.arrive; fast = true }) → r ≡ confirmation i k p (judged i p)
judged_fast i k p r many made is = is ∙ sym (λ j. confirmation i k p (record { start = p.arrive; fast = many j && made j }))

pub judged_slow : (i : Intersection) (k : Known) (p : Params) (r : Reply) → has_windows i ≡ true → is_fast_made p ≡ false → r ≡ confirmation i k p (record { start = p.arrive; fast = false }) → r ≡ confirmation i k p (judged i p)
judged_slow i k p r many unmade is = is ∙ sym (λ j. confirmation i k p (record { start = p.arrive; fast = many j && unmade j }))

pub slow_steps : (i : Intersection) (p : Params) (r : Request) (s : TrialSteps) → has_windows i ≡ true → is_fast_made p ≡ false → IsAsking i p r → bad i p ≡ None → s ≡ r.steps → s.steady ≡ crossing_steps i p false
slow_steps i p r s many unmade asking good is =
    (λ j. (is j).steady) ∙ (asking.prepared.steps p (good_params i p r asking good)).steady ∙ (λ j. if many j && unmade j then 0 else crossing_steps i p false)

-- a request whose arrival is the start
pub asks_there : (i : Intersection) (p moved : Params) (s : ℕ) (r : Request) → moved ≡ arriving_at p s → IsAsking i (arriving_at p s) r → IsAsking i moved r
asks_there i p moved s r same asking = subst (λ q. IsAsking i q r) (sym same) asking

-- the trial of a confirmation is the one it names
pub start_named : (i : Intersection) (k : Known) (p : Params) (r : Reply) (t u : Trial) → r ≡ confirmation i k p t → granted_trial r ≡ Some u → u ≡ t
start_named i k p r t u is named = (let e : Some t ≡ Some u = sym (ap granted_trial is) ∙ named in cc)

-- the sheet of the judged trial is one of the two
pub judged_fits : (i : Intersection) (p : Params) (r : Request) (spans : List Span) → IsAsking i p r → bad i p ≡ None → IsTrialOf i p (judged i p).fast spans → length spans ≤ length r.first.spans + length r.second.spans
judged_fits i p r spans asking good trial = go (judged i p).fast refl trial.count
  where
    shown : prepared_params r ≡ Some p
    shown = good_params i p r asking good

    go : (b : Bool) → (judged i p).fast ≡ b → length spans ≡ span_count i p b → length spans ≤ length r.first.spans + length r.second.spans
    go true e count = let f = (asking.prepared.fast p shown (and_parts (has_windows i) (is_fast_made p) e).1).count in omega arith
    go false e count = let s = (asking.prepared.steady p shown e).count in omega arith

-- what is looked at where the first start is granted, and where later ones are tried
pub first_tried : (after before s spans arrive latest : ℕ) → arrive ≤ latest → after ≤ before + s → s ≤ spans → after ≤ before + (latest + 1 - arrive) * spans
first_tried after before s spans arrive latest low a b = let e : latest + 1 - arrive ≡ latest - arrive + 1 = omega arith in rw e (omega arith)

pub later_tried : (after mid before s spans arrive latest : ℕ) → arrive ≤ latest → mid ≤ before + s → s ≤ spans → after ≤ mid + (latest - arrive) * spans → after ≤ before + (latest + 1 - arrive) * spans
later_tried after mid before s spans arrive latest low a b c = let e : latest + 1 - arrive ≡ latest - arrive + 1 = omega arith in rw e (omega arith)

-- the request has gone on to the trial of the confirmation
pub gone_judged : (i : Intersection) (k : Known) (p : Params) (r : Reply) (t : Trial) (g : Request) → r ≡ confirmation i k p (judged i p) → granted_trial r ≡ Some t → IsAsking i p g → bad i p ≡ None → HasGoneTo i p t.start g
gone_judged i k p r t g is named asking good =
    subst (λ s. HasGoneTo i p s g) (sym (ap (λ (u : Trial). u.start) (start_named i k p r (judged i p) t is named))) (record { latest = p.latest; asking = asking; good = good })

pub gone_later : (i : Intersection) (k : Known) (p moved : Params) (s : ℕ) (r : Reply) (t : Trial) (g : Request) → moved ≡ arriving_at p s → r ≡ confirmation i k moved (judged i moved) → granted_trial r ≡ Some t → IsAsking i (arriving_at p s) g → bad i (arriving_at p s) ≡ None → HasGoneTo i p t.start g
gone_later i k p moved s r t g same is named asking good =
    let at : t.start ≡ s = ap (λ (u : Trial). u.start) (start_named i k moved r (judged i moved) t is named) ∙ ap (λ (q : Params). q.arrive) same in
    subst (λ n. HasGoneTo i p n g) (sym at) (record { latest = s; asking = asking; good = good })
