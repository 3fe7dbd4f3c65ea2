-- The tests that come before the cells of a crossing.
use Rattle.std.proofs.Common.{◌≡◌, ℕ, ◌+◌, ◌≤◌, Bool, true, false, ◌&&◌, not, nat_le, nat_lt, List, length, Option, Some, None, refl, sym, ◌∙◌, ap, slice_get, slice_index_or, le-leb}
use Rattle.std.specs.Prelude.{option_map, option_and_then, IsTrue, ◌↔◌, if◌then◌else◌}
use Rattle.std.specs.List.{list_any}
use Rattle.std.specs.Option.{option_or}
use Rattle.aim_sessions.specs.Kept.{no_session}
use Rattle.std.proofs.lemmas.Bool.{false_from_ne_true, leb-true}
use Rattle.aim_geometry.specs.Bounded.{least_below}
use Rattle.aim_messages.specs.declared.messages.Params.{Params}
use Rattle.aim_messages.specs.declared.replies.Reason.{Reason}
use Rattle.aim_messages.specs.declared.replies.Reason.TheVariants as reason
use Rattle.aim_layout.specs.Intersection.{Intersection}
use Rattle.aim_layout.specs.Policies.{has_lane}
use Rattle.aim_layout.specs.declared.policies.PolicyKind.{PolicyKind}
use Rattle.aim_requests.specs.Cells.{HaveCells}
use Rattle.aim_sheets.specs.declared.spans.Span.{Span}
use Rattle.aim_rules.specs.Trials.{has_windows, is_fast_made, judged}
use Rattle.aim_rules.specs.Answer.{gives_way, where_so, comes, in_the_way, bad_field, too_far, too_late, too_soon}
use Rattle.aim_rules.specs.Cells.{cells}
use Rattle.aim_rules.specs.Known.{Known}
use Rattle.aim_rules.proofs.CellLemmas.{cells_has, cells_needed}
use Rattle.aim_rules.proofs.Lists.{IsIn-test, some_passes}
use Rattle.aim_requests.specs.Requests.{Request, prepared_params, steady_sheet}
use Rattle.aim_sheets.specs.Sheets.{Spans}
use Rattle.aim_sessions.specs.Calls.{is_call_in}
use Rattle.aim_rules.specs.Bad.{bad}
use Rattle.aim_rules.specs.Kept.{policy_in}
use Rattle.aim_book.specs.Asking.{AreCalling, IsAsking}
use Rattle.aim_book.specs.Desk.{Tells}
use Rattle.aim_reservations.specs.SpanSteps.{Reaches}
use Rattle.aim_book.specs.declared.desks.Desk.{Desk}

-- the spans reach the step exactly where one of the crossing's cells does
pub far_is : (i : Intersection) (p : Params) (fast : Bool) (spans : List Span) (reach : ℕ) (b : Bool) → i.times.early ≤ i.times.edge → i.times.late ≤ i.times.edge → HaveCells i p fast spans → IsTrue b ↔ Reaches spans reach →
    b ≡ list_any (λ c. nat_le reach c.step) (cells i p fast)
far_is i p fast spans reach true before after have both =
    let r = both.0 refl in
    sym (IsIn-test (λ c. nat_le reach c.step) (cells i p fast) r.0 (cells_has i p fast r.0 before after (sym (have r.0) ∙ r.1)) (le-leb reach r.0.step r.2))
far_is i p fast spans reach false before after have both =
    sym (false_from_ne_true (list_any (λ c. nat_le reach c.step) (cells i p fast)) (λ t. (
    let s = some_passes (λ c. nat_le reach c.step) (cells i p fast) t in
    let l : reach ≤ s.0.step = leb-true reach s.0.step s.2 in
    let e : false ≡ true = both.1 (s.0, have s.0 ∙ cells_needed i p fast s.0 s.1, l) in cc)))

module _ {L : Type 0} (i : Intersection) (v place : ℕ) (k : Known) (p : Params) (d : Desk L) (tells : Tells i v place k d) where
  pub late_is : too_late i k p ≡ where_so (nat_le p.arrive (d.reservations.table.current + i.times.edge)) (reason.Late d.reservations.table.current)
  late_is = λ j. where_so (nat_le p.arrive (tells.now j + i.times.edge)) (reason.Late (tells.now j))

  pub far_by : too_far i k p ≡ where_so (list_any (λ c. nat_le (d.reservations.table.current + i.times.horizon) c.step) (cells i p (judged i p).fast)) (reason.Far (d.reservations.table.current + i.times.horizon))
  far_by = λ j. where_so (list_any (λ c. nat_le (tells.now j + i.times.horizon) c.step) (cells i p (judged i p).fast)) (reason.Far (tells.now j + i.times.horizon))

-- the lane to give way to, where the policy is such a one
pub way_is : (i : Intersection) (k : Known) (p : Params) (lanes : ℕ) (kind : PolicyKind) → option_map (λ q. q.kind) (slice_get i.policies (k.policy p.arrive).policy) ≡ Some kind → gives_way (Some kind) ≡ true →
    ((lane : ℕ) → has_lane lanes lane ≡ comes i k p lane) →
    in_the_way i k p ≡ (if has_lane lanes p.lane then None else option_map (λ lane. reason.Emergency lane) (least_below (length i.lanes) (has_lane lanes)))
way_is i k p lanes kind is gives all =
    (λ j. option_and_then (λ lane. where_so (gives_way (is j) && not (sym (all p.lane) j)) (reason.Emergency lane)) (least_below (length i.lanes) (λ lane. sym (all lane) j)))
    ∙ ap (λ b. option_and_then (λ lane. where_so (b && not (has_lane lanes p.lane)) (reason.Emergency lane)) (least_below (length i.lanes) (has_lane lanes))) gives
    ∙ go (has_lane lanes p.lane) (least_below (length i.lanes) (has_lane lanes))
  where
    go : (b : Bool) (o : Option ℕ) → option_and_then (λ lane. where_so (not b) (reason.Emergency lane)) o ≡ (if b then None else option_map (λ lane. reason.Emergency lane) o)
    go true None = refl
    go true (Some lane) = refl
    go false None = refl
    go false (Some lane) = refl

-- the lane to give way to, by what is asked of the parts
pub way_found : {L : Type 0} (i : Intersection) (v place : ℕ) (k : Known) (p : Params) (d : Desk L) (policy from lanes now horizon : ℕ) (kind : PolicyKind) → Tells i v place k d → AreCalling i k p d.approaches →
    record { policy = policy; from = from } ≡ policy_in d.timeline.pushed p.arrive → option_map (λ q. q.kind) (slice_get i.policies policy) ≡ Some kind → gives_way (Some kind) ≡ true →
    now ≡ d.reservations.table.current → horizon ≡ i.times.horizon → ((lane : ℕ) → has_lane lanes lane ≡ list_any (is_call_in now horizon lane) d.approaches) →
    in_the_way i k p ≡ (if has_lane lanes p.lane then None else option_map (λ lane. reason.Emergency lane) (least_below (length i.lanes) (has_lane lanes)))
way_found i v place k p d policy from lanes now horizon kind tells calling in_force is gives now_is horizon_is all =
    let same : k.policy p.arrive ≡ record { policy = policy; from = from } = tells.policy p.arrive ∙ sym in_force in
    way_is i k p lanes kind (ap (λ f. option_map (λ q. q.kind) (slice_get i.policies f.policy)) same ∙ is) gives
    (λ lane. all lane ∙ (λ j. list_any (is_call_in ((now_is ∙ sym tells.now) j) (horizon_is j) lane) d.approaches) ∙ calling lane)

-- the field that a request is bad in, as it was prepared
pub field_is : (i : Intersection) (p : Params) (r : Request) → IsAsking i p r → r.bad ≡ bad i p
field_is i p r asking = asking.prepared.field ∙ ap (λ o. option_and_then (bad i) o) asking.params

pub good_params : (i : Intersection) (p : Params) (r : Request) → IsAsking i p r → bad i p ≡ None → prepared_params r ≡ Some p
good_params i p r asking good = rw (field_is i p r asking, good) asking.params

-- the sheet of the steady trial
pub steady_is : (i : Intersection) (p : Params) (r : Request) (sheet : Spans) → has_windows i ≡ false → IsAsking i p r → bad i p ≡ None → Some sheet ≡ steady_sheet r → HaveCells i p false sheet.spans
steady_is i p r sheet one asking good at =
    let e : steady_sheet r ≡ Some r.second = ap (λ o. option_and_then (λ p. Some r.second) o) (good_params i p r asking good) in
    let same : sheet ≡ r.second = (let q : Some sheet ≡ Some r.second = at ∙ e in cc) in
    rw same (asking.prepared.steady p (good_params i p r asking good) (ap (λ b. b && is_fast_made p) one)).cells

pub steady_some : (i : Intersection) (p : Params) (r : Request) → IsAsking i p r → bad i p ≡ None → None ≡ steady_sheet r → ⊥
steady_some i p r asking good at =
    let e : steady_sheet r ≡ Some r.second = ap (λ o. option_and_then (λ p. Some r.second) o) (good_params i p r asking good) in
    let q : None ≡ Some r.second = at ∙ e in cc

pub or_none : (o : Option Reason) → option_or o None ≡ o
or_none None = refl
or_none (Some why) = refl

-- what the tests of a good request give, one after the other
pub timely_is : {L : Type 0} (i : Intersection) (v place : ℕ) (k : Known) (p : Params) (d : Desk L) (now edge horizon : ℕ) (late far : Bool) (rest : Option Reason) → Tells i v place k d → now ≡ d.reservations.table.current → edge ≡ i.times.edge → horizon ≡ i.times.horizon →
    nat_le p.arrive (now + edge) ≡ late → list_any (λ c. nat_le (now + horizon) c.step) (cells i p (judged i p).fast) ≡ far →
    option_or (too_late i k p) (option_or (too_far i k p) rest) ≡ option_or (where_so late (reason.Late now)) (option_or (where_so far (reason.Far (now + horizon))) rest)
timely_is i v place k p d now edge horizon late far rest tells now_is edge_is horizon_is is_late is_far =
    (λ j. option_or (late_is i v place k p d tells j) (option_or (far_by i v place k p d tells j) rest))
    ∙ (λ j. option_or (where_so (nat_le p.arrive (sym now_is j + sym edge_is j)) (reason.Late (sym now_is j))) (option_or (where_so (list_any (λ c. nat_le (sym now_is j + sym horizon_is j) c.step) (cells i p (judged i p).fast)) (reason.Far (sym now_is j + sym horizon_is j))) rest))
    ∙ (λ j. option_or (where_so (is_late j) (reason.Late now)) (option_or (where_so (is_far j) (reason.Far (now + horizon))) rest))

-- a vehicle that may ask, with a good request
pub early_is : {L : Type 0} (i : Intersection) (v place : ℕ) (k : Known) (p : Params) (d : Desk L) (now next : ℕ) (rest : Option Reason) → Tells i v place k d → now ≡ d.reservations.table.current → next ≡ (slice_index_or d.sessions v no_session).next → nat_lt now next ≡ false → bad i p ≡ None →
    rest ≡ option_or (too_soon i k p) (option_or (bad_field i k p) rest)
early_is i v place k p d now next rest tells now_is next_is may good =
    sym (ap (λ f. option_or (option_map (λ field. reason.Bad field) f) rest) good)
    ∙ sym (ap (λ b. option_or (where_so b (reason.TooSoon k.next)) (option_or (option_map (λ field. reason.Bad field) (bad i p)) rest)) soon)
  where
    soon : nat_lt k.now k.next ≡ false
    soon = (λ j. nat_lt ((tells.now ∙ sym now_is) j) ((tells.next ∙ sym next_is) j)) ∙ may
