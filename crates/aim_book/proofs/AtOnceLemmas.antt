-- What is known of a message before the cells of its crossing are.
use Rattle.std.proofs.Common.{◌≡◌, ℕ, zero, suc, ◌+◌, ◌*◌, ◌≤◌, Bool, true, false, List, [], ◌∷◌, take, length, Option, Some, None, Result, Ok, Err, refl, sym, ◌∙◌, ap, arith, subst}
use Rattle.std.specs.Prelude.{is_none, option_and_then, if◌then◌else◌, IfOk}
use Rattle.std.specs.Option.{option_or}
use Rattle.aim_messages.specs.declared.messages.Body.{Body}
use Rattle.aim_messages.specs.declared.messages.Body.TheVariants as body
use Rattle.aim_messages.specs.declared.messages.Params.{Params}
use Rattle.aim_messages.specs.declared.replies.Field.{Field}
use Rattle.aim_messages.specs.declared.replies.Reason.{Reason}
use Rattle.aim_messages.specs.declared.replies.Reply.{Reply}
use Rattle.aim_geometry.specs.Bounded.{find_map}
use Rattle.aim_layout.specs.Intersection.{Intersection}
use Rattle.aim_requests.specs.Requests.{IsPreparedFor, Request}
use Rattle.aim_rules.specs.Bad.{bad, span_count}
use Rattle.aim_rules.specs.Trials.{is_fast_made, judged}
use Rattle.aim_rules.specs.History.{params_of}
use Rattle.aim_rules.specs.Known.{Known}
use Rattle.aim_rules.specs.Answer.{answer_asking, answer_free, answer_fresh, first_reason, own_refusal, refusal, refused_or}
use Rattle.aim_book.specs.Costs.{asked_spans, starts_tried}
use Rattle.aim_reservations.specs.Keeping.{is_named, row_count}
use Rattle.aim_reservations.specs.Rows.{spans_in}
use Rattle.aim_book.specs.Reserved.{rows_exchanged}
use Rattle.aim_reservations.specs.declared.reservations.Reservation.{Reservation}

-- what is known of a result's value
pub if_ok : {A E : Type 0} {P Q : A → Type 0} (r : Result A E) → ((a : A) → P a → Q a) → IfOk r P → IfOk r Q
if_ok (Ok a) f p = f a p
if_ok (Err e) f p = p

-- the first that a beginning of a list gives is the first that the list gives
pub find_map-take : {X Y : Type 0} (f : X → Option Y) (n : ℕ) (xs : List X) (y : Y) → find_map f (take n xs) ≡ Some y → find_map f xs ≡ Some y
find_map-take f zero xs y h = absurd (cc)
find_map-take f (suc n) [] y h = h
find_map-take f (suc n) (x ∷ xs) y h = go (f x) (λ r. find_map-take f n xs y r) h
  where
    go : (o : Option _) → (find_map f (take n xs) ≡ Some y → find_map f xs ≡ Some y) → option_or o (find_map f (take n xs)) ≡ Some y → option_or o (find_map f xs) ≡ Some y
    go None behind h = behind h
    go (Some z) behind h = h

-- a refusal for a reason that comes before the cells
refused_asking : (i : Intersection) (k : Known) (b : Body) (p : Params) (why : Reason) (r : Reply) → option_or (own_refusal i k b) (first_reason i k p) ≡ Some why → r ≡ refusal i k p.arrive why → r ≡ answer_asking i k b p
refused_asking i k b p why r first is = is ∙ sym (ap (λ o. refused_or i k p o (answer_free i k p)) first)

pub refused_fresh : (i : Intersection) (k : Known) (b : Body) (p : Params) (why : Reason) (r : Reply) → k.stopped ≡ false → params_of b ≡ Some p → option_or (own_refusal i k b) (first_reason i k p) ≡ Some why → r ≡ refusal i k p.arrive why → r ≡ answer_fresh i k b
refused_fresh i k (body.Cancel id) p why r going asks first is = absurd (cc)
refused_fresh i k (body.Done id) p why r going asks first is = absurd (cc)
refused_fresh i k (body.Request q) p why r going asks first is =
    let s : q ≡ p = cc in
    rw going (subst (λ u. r ≡ answer_asking i k (body.Request q) u) (sym s) (refused_asking i k (body.Request q) p why r first is))
refused_fresh i k (body.Change id q) p why r going asks first is =
    let s : q ≡ p = cc in
    rw going (subst (λ u. r ≡ answer_asking i k (body.Change id q) u) (sym s) (refused_asking i k (body.Change id q) p why r first is))

-- a reservation that is given up, as it is named
pub given_count : (id : Option ℕ) (row : Option Reservation) → (if is_named id row then 1 else 0) + row_count (if is_named id row then None else row) ≡ row_count row
given_count id None = refl
given_count id (Some r) = go (is_named id (Some r))
  where
    go : (b : Bool) → (if b then 1 else 0) + row_count (if b then None else Some r) ≡ 1
    go true = refl
    go false = refl

pub given_fits : (id : Option ℕ) (row : Option Reservation) → (if is_named id row then length (spans_in row) else 0) ≤ rows_exchanged row (if is_named id row then None else row)
given_fits id None = omega arith
given_fits id (Some r) = go (is_named id (Some r))
  where
    go : (b : Bool) → (if b then length r.sheet.spans else 0) ≤ rows_exchanged (Some r) (if b then None else Some r)
    go true = omega arith
    go false = omega arith

-- those of one start
abbrev at_start : Intersection → Option Params → ℕ
at_start i None = 0
at_start i (Some p) = if is_none (bad i p) then (if (judged i p).fast then 0 else span_count i p false) + (if is_fast_made p then span_count i p true else 0) else 0

start_is : (i : Intersection) (r : Request) → IsPreparedFor i r → length r.first.spans + length r.second.spans ≡ at_start i (params_of r.message.body)
start_is i r prepared = go (params_of r.message.body) refl
  where
    none : r.first.spans ≡ [] → r.second.spans ≡ [] → length r.first.spans + length r.second.spans ≡ 0
    none a b = rw (a, b) refl

    fast : (p : Params) (b : Bool) → is_fast_made p ≡ b → (if is_none r.bad then params_of r.message.body else None) ≡ Some p → length r.first.spans ≡ (if b then span_count i p true else 0)
    fast p true made e = (prepared.fast p e made).count
    fast p false made e = ap length (prepared.unmade p e made)

    steady : (p : Params) (b : Bool) → (judged i p).fast ≡ b → (if is_none r.bad then params_of r.message.body else None) ≡ Some p → length r.second.spans ≡ (if b then 0 else span_count i p false)
    steady p true is e = ap length (prepared.untried p e is)
    steady p false is e = (prepared.steady p e is).count

    with_bad : (p : Params) (o : Option Field) → r.bad ≡ o → bad i p ≡ o → params_of r.message.body ≡ Some p → length r.first.spans + length r.second.spans ≡ (if is_none o then (if (judged i p).fast then 0 else span_count i p false) + (if is_fast_made p then span_count i p true else 0) else 0)
    with_bad p (Some f) e g asks = let q = prepared.empty (rw e refl) in none q.0 q.1
    with_bad p None e g asks =
        let is : (if is_none r.bad then params_of r.message.body else None) ≡ Some p = rw (e, asks) refl in
        let a = fast p (is_fast_made p) refl is in
        let b = steady p (judged i p).fast refl is in
        omega arith

    go : (o : Option Params) → params_of r.message.body ≡ o → length r.first.spans + length r.second.spans ≡ at_start i o
    go None e = let q = prepared.empty (nothing (is_none r.bad) e) in none q.0 q.1
      where
        nothing : (b : Bool) → params_of r.message.body ≡ None → (if b then params_of r.message.body else None) ≡ None
        nothing true e = e
        nothing false e = refl
    go (Some p) e = with_bad p (bad i p) (prepared.field ∙ ap (λ o. option_and_then (bad i) o) e) refl e

-- the spans of what was prepared, at each start that may be tried
pub asked_is : (i : Intersection) (r : Request) → IsPreparedFor i r → starts_tried i (params_of r.message.body) * (length r.first.spans + length r.second.spans) ≡ asked_spans i (params_of r.message.body)
asked_is i r prepared = ap (λ n. starts_tried i (params_of r.message.body) * n) (start_is i r prepared) ∙ each (params_of r.message.body)
  where
    none_of : (n : ℕ) → n * 0 ≡ 0
    none_of n = omega arith

    made : (n m : ℕ) (b : Bool) → n * (if b then m else 0) ≡ (if b then n * m else 0)
    made n m true = refl
    made n m false = none_of n

    each : (o : Option Params) → starts_tried i o * at_start i o ≡ asked_spans i o
    each None = refl
    each (Some p) = made (starts_tried i (Some p)) ((if (judged i p).fast then 0 else span_count i p false) + (if is_fast_made p then span_count i p true else 0)) (is_none (bad i p))
