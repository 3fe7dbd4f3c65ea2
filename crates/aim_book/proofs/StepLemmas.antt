-- Small steps of the answers: ranges, places and what comes first.
use Rattle.std.proofs.Common.{◌≡◌, ℕ, ◌+◌, ◌<◌, ◌≤◌, Bool, false, ◌&&◌, nat_le, List, length, Option, Some, None, refl, sym, ◌∙◌, ap, arith, le-leb, nat_lt, slice_index_or, subst}
use Rattle.std.specs.Prelude.{IfNone, option_and_then, option_map, is_some}
use Rattle.std.specs.Option.{option_or}
use Rattle.std.proofs.lemmas.Bool.{lt-leb, and_parts, lt-ltb}
use Rattle.aim_geometry.specs.Cells.{Cell, cell_at}
use Rattle.aim_messages.specs.declared.entries.TheConstants.{LATEST_MOMENT}
use Rattle.aim_messages.specs.declared.messages.Params.{Params}
use Rattle.aim_messages.specs.declared.replies.Reason.{Reason}
use Rattle.aim_messages.specs.declared.replies.Reason.TheVariants as reason
use Rattle.aim_layout.specs.Intersection.{Intersection}
use Rattle.aim_layout.specs.Valid.{IsValid}
use Rattle.aim_sheets.specs.declared.spans.Span.{Span}
use Rattle.aim_sheets.specs.Spans.{in_spans}
use Rattle.aim_sheets.specs.Sheets.{Spans}
use Rattle.aim_tiles.specs.Sheets.{AreTiles}
use Rattle.aim_requests.specs.Requests.{Request, steady_sheet, IsPreparedFor}
use Rattle.aim_rules.specs.Answer.{where_so, bad_field, too_late, too_soon, answer_asking, answer_fresh}
use Rattle.aim_rules.specs.Bad.{bad}
use Rattle.aim_rules.specs.Known.{Known}
use Rattle.aim_rules.proofs.GoodLemmas.{good_params as good_bounds}
use Rattle.aim_reservations.specs.Blocking.{IsLeastCell}
use Rattle.aim_book.specs.Asking.{HasGoneTo, IsAsking}
use Rattle.aim_book.specs.Desk.{Tells}
use Rattle.aim_book.specs.declared.desks.Desk.{Desk}
use Rattle.aim_book.proofs.EarlyLemmas.{good_params, late_is, field_is}
use Rattle.aim_sessions.specs.Kept.{no_session}
use Rattle.aim_messages.specs.declared.replies.Field.{Field}
use Rattle.aim_messages.specs.declared.messages.Body.{Body}
use Rattle.aim_messages.specs.declared.messages.Body.TheVariants as body
use Rattle.aim_messages.specs.declared.replies.Reply.{Reply}
use Rattle.aim_rules.specs.History.{params_of}

-- the lane and the arrival of params that are good
pub call_range : (i : Intersection) (p : Params) → IsValid i → bad i p ≡ None → (p.lane < 16) × (p.arrive ≤ LATEST_MOMENT)
call_range i p valid good =
    let g = good_bounds i p good in
    let few = valid.sound.lanes in
    (omega (arith, g.lane, few), g.arrive)

-- a request that comes too late is refused for that
pub late_first : {L : Type 0} (i : Intersection) (v place : ℕ) (k : Known) (p : Params) (d : Desk L) (now edge : ℕ) (rest : Option Reason) → Tells i v place k d → now ≡ d.reservations.table.current → edge ≡ i.times.edge → p.arrive ≤ now + edge →
    Some (reason.Late now) ≡ option_or (too_late i k p) rest
late_first i v place k p d now edge rest tells now_is edge_is late =
    sym (ap (λ o. option_or o rest)
    (late_is i v place k p d tells
    ∙ (λ j. where_so (nat_le p.arrive (sym now_is j + sym edge_is j)) (reason.Late (sym now_is j)))
    ∙ ap (λ b. where_so b (reason.Late now)) (le-leb p.arrive (now + edge) late)))

-- one that doesn't
pub ahead_then : {X : Type 0} (o : Option X) (arrive now edge current most : ℕ) → now ≡ current → edge ≡ most → now + edge < arrive → IfNone o (nat_le arrive (current + most) ≡ false)
ahead_then None arrive now edge current most now_is edge_is ahead = rw (← now_is, ← edge_is) (lt-leb arrive (now + edge) ahead)
ahead_then (Some x) arrive now edge current most now_is edge_is ahead = tt

pub none_gives : {X : Type 0} (o : Option X) (P : Type 0) → P → IfNone o P
none_gives None P p = p
none_gives (Some x) P p = tt

-- the least cell of a sheet is of a tile of the grid
pub least_inside : (n step row col : ℕ) (spans : List Span) (test : Cell → Bool) → AreTiles n spans → IsLeastCell (λ c. in_spans spans c && test c) (cell_at step row col) → (row < n) × (col < n)
least_inside n step row col spans test tiles least = tiles (cell_at step row col) (and_parts (in_spans spans (cell_at step row col)) (test (cell_at step row col)) least.passes).0

-- the sheet of the steady trial is the second one
pub steady_second : (i : Intersection) (p : Params) (r : Request) (sheet : Spans) → IsAsking i p r → bad i p ≡ None → Some sheet ≡ steady_sheet r → sheet ≡ r.second
steady_second i p r sheet asking good at =
    let q : Some sheet ≡ Some r.second = at ∙ ap (λ o. option_and_then (λ p. Some r.second) o) (good_params i p r asking good) in
    cc

pub both_cost : (after mid before first : ℕ) (sheet second : Spans) → sheet ≡ second → mid ≤ before + first → after ≤ mid + length sheet.spans → after ≤ before + first + length second.spans
both_cost after mid before first sheet second same a b =
    let e : length sheet.spans ≡ length second.spans = ap (λ (s : Spans). length s.spans) same in
    omega arith

-- a vehicle that may not ask yet, and one that may, with a bad field
module _ {L : Type 0} (i : Intersection) (v place : ℕ) (k : Known) (p : Params) (d : Desk L) (now next : ℕ) (tells : Tells i v place k d) (now_is : now ≡ d.reservations.table.current) (next_is : next ≡ (slice_index_or d.sessions v no_session).next) (rest : Option Reason) where
  abbrev fields : Option Field → Option Reason
  fields o = option_or (option_map (λ field. reason.Bad field) o) rest

  soon : where_so (nat_lt k.now k.next) (reason.TooSoon k.next) ≡ where_so (nat_lt now next) (reason.TooSoon next)
  soon = (λ j. where_so (nat_lt ((tells.now ∙ sym now_is) j) ((tells.next ∙ sym next_is) j)) (reason.TooSoon ((tells.next ∙ sym next_is) j)))

  pub soon_first : now < next → Some (reason.TooSoon next) ≡ option_or (too_soon i k p) (option_or (bad_field i k p) rest)
  soon_first l = sym (ap (λ o. option_or o (fields (bad i p))) (soon ∙ ap (λ b. where_so b (reason.TooSoon next)) (lt-ltb now next l)))

  pub bad_first : (f : Field) → nat_lt now next ≡ false → bad i p ≡ Some f → Some (reason.Bad f) ≡ option_or (too_soon i k p) (option_or (bad_field i k p) rest)
  bad_first f may is =
      sym (ap fields is)
      ∙ sym (ap (λ o. option_or o (fields (bad i p))) (soon ∙ ap (λ b. where_so b (reason.TooSoon next)) may))

-- what is asked where no Stop stands
pub fresh_asked : (i : Intersection) (k : Known) (b : Body) (p : Params) (r : Reply) → k.stopped ≡ false → params_of b ≡ Some p → r ≡ answer_asking i k b p → r ≡ answer_fresh i k b
fresh_asked i k (body.Cancel id) p r going asks is = absurd (cc)
fresh_asked i k (body.Done id) p r going asks is = absurd (cc)
fresh_asked i k (body.Request q) p r going asks is =
    let s : q ≡ p = cc in
    rw going (subst (λ u. r ≡ answer_asking i k (body.Request q) u) (sym s) is)
fresh_asked i k (body.Change id q) p r going asks is =
    let s : q ≡ p = cc in
    rw going (subst (λ u. r ≡ answer_asking i k (body.Change id q) u) (sym s) is)

-- the request has gone on, whatever its params are called
pub fresh_gone : (i : Intersection) (b : Body) (p q : Params) (start : ℕ) (g : Request) → params_of b ≡ Some q → params_of b ≡ Some p → HasGoneTo i q start g → HasGoneTo i p start g
fresh_gone i b p q start g here asks gone =
    let e : Some q ≡ Some p = sym here ∙ asks in
    let s : q ≡ p = cc in
    subst (λ x. HasGoneTo i x start g) s gone

none_is : {X : Type 0} (o : Option X) → is_some o ≡ false → o ≡ None
none_is None is = refl
none_is (Some x) is = absurd (cc)

-- the same of a request that was prepared
pub prepared_range : (i : Intersection) (p : Params) (r : Request) (o : Option Field) → IsValid i → IsPreparedFor i r → params_of r.message.body ≡ Some p → o ≡ r.bad → is_some o ≡ false → (p.lane < 16) × (p.arrive ≤ LATEST_MOMENT)
prepared_range i p r o valid prepared asks bad_is none =
    call_range i p valid (sym (field_is i p r (record { prepared = prepared; params = asks })) ∙ sym bad_is ∙ none_is o none)
