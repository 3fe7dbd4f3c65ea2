-- The desk after one more fresh message.
use Rattle.std.proofs.Common.{◌≡◌, ℕ, ◌<◌, ◌≤◌, Bool, true, false, ◌&&◌, ◌||◌, not, nat_le, List, [], ◌∷◌, length, ◌++◌, Option, Some, None, refl, sym, ◌∙◌, ap, arith, le-leb, subst, inl, inr}
use Rattle.std.specs.Prelude.{◌==◌, if◌then◌else◌, slice_set, slice_index_or}
use Rattle.std.proofs.lemmas.Bool.{eq-eqb, eqb-true, lt-leb, cases_lt, false_from_ne_true, both_ways}
use Rattle.std.proofs.lemmas.List.{get_or-set_same, get_or-set_other, length-set}
use Rattle.aim_geometry.specs.Cells.{Cell}
use Rattle.aim_messages.specs.declared.messages.Message.{Message}
use Rattle.aim_layout.specs.Intersection.{Intersection}
use Rattle.aim_sheets.specs.Spans.{in_spans}
use Rattle.aim_tiles.specs.Cells.{TakenCells, has_cell as has_taken}
use Rattle.aim_requests.specs.Requests.{Request}
use Rattle.aim_rules.specs.History.{Fresh, given_up, given_up_at, is_confirm}
use Rattle.aim_rules.specs.Holds.{is_granted, is_number}
use Rattle.aim_rules.specs.Kept.{AreApart, has_cell, is_owned, kept, kept_next, owns, without}
use Rattle.aim_rules.proofs.TakenLaws.{is_owned-same, is_owned-snoc}
use Rattle.aim_rules.proofs.VehicleLaws.{kept-snoc}
use Rattle.aim_book.specs.Costs.{granted_spans}
use Rattle.aim_reservations.specs.Keeping.{granted_sheet, is_changed, is_named, is_taken_then, row_next}
use Rattle.aim_reservations.specs.Rows.{row_of, spans_in}
use Rattle.aim_book.specs.Reserved.{AreReserved, IsRowOf}
use Rattle.aim_reservations.specs.declared.reservations.Reservation.{Reservation}
use Rattle.aim_reservations.specs.declared.reservations.Reservations.{Reservations}
use Rattle.aim_book.proofs.ManagedLemmas.{row_has}

-- a reservation and what is kept are given up by one id
given_rows : (i : Intersection) (id : Option ℕ) (o : Option Fresh) (row : Option Reservation) → IsRowOf i o row → IsRowOf i (without id o) (if is_named id row then None else row)
given_rows i id None None of = tt
given_rows i id None (Some r) of = absurd of
given_rows i id (Some x) None of = absurd of
given_rows i id (Some x) (Some r) of = subst (λ k. IsRowOf i (if is_number id x.place then None else Some x) (if is_number id k then None else Some r)) (sym of.id) (go (is_number id x.place))
  where
    go : (b : Bool) → IsRowOf i (if b then None else Some x) (if b then None else Some r)
    go true = tt
    go false = of

-- without a Confirm, and where nothing is given up, what is kept stays
same_kept : (i : Intersection) (id : Option ℕ) (o : Option Fresh) (row : Option Reservation) → IsRowOf i o row → is_named id row ≡ false → without id o ≡ o
same_kept i id None row of e = refl
same_kept i id (Some x) None of e = absurd of
same_kept i id (Some x) (Some r) of e = let f : is_number id x.place ≡ false = rw (← of.id) e in rw f refl

module _ {L : Type 0} (i : Intersection) (n : ℕ) (xs : List Fresh) (x : Fresh) (v place at : ℕ) (r : Request) (m : Message) (old new : Reservations L)
    (are : AreReserved i n xs at old) (apart : AreApart i xs at) (l : v < n) (caller : x.entry.caller ≡ v) (said : given_up_at x ≡ given_up r.message.body) (at_place : x.place ≡ place)
    (granted : is_confirm x.entry.reply ≡ true → (c : Cell) → in_spans (granted_sheet r x.entry.reply).spans c ≡ is_granted i x c)
    (count : is_confirm x.entry.reply ≡ true → length (granted_sheet r x.entry.reply).spans ≡ granted_spans i x)
    (later : is_confirm x.entry.reply ≡ true → (c : Cell) → in_spans (granted_sheet r x.entry.reply).spans c ≡ true → at ≤ c.step)
    (room : (granted_sheet r x.entry.reply).room ≡ i.grid.spans) where
  abbrev row : Option Reservation
  row = row_of old.rows.items v

  abbrev next : Option Reservation
  next = row_next row place r x.entry.reply

  own_row : IsRowOf i (kept xs v) row
  own_row = are.rows v l

  next_row : IsRowOf i (kept_next (kept xs v) x) next
  next_row = go (is_confirm x.entry.reply) refl
    where
      go : (b : Bool) → is_confirm x.entry.reply ≡ b →
          IsRowOf i (if b then Some x else without (given_up_at x) (kept xs v)) (if b then Some (record { id = place; sheet = granted_sheet r x.entry.reply }) else if is_named (given_up r.message.body) row then None else row)
      go true e = record { id = sym at_place; cells = granted e; count = count e; room = room }
      go false e = rw said (given_rows i (given_up r.message.body) (kept xs v) row own_row)

  rows_next : (rs : List (Option Reservation)) → rs ≡ slice_set old.rows.items v next → (w : ℕ) → w < n → IsRowOf i (kept (xs ++ x ∷ []) w) (row_of rs w)
  rows_next rs is w k =
      subst (λ o. IsRowOf i o (row_of rs w)) (sym (kept-snoc xs x w))
      (subst (λ u. IsRowOf i (if u == w then kept_next (kept xs w) x else kept xs w) (row_of rs w)) (sym caller)
      (subst (λ ss. IsRowOf i (if v == w then kept_next (kept xs w) x else kept xs w) (row_of ss w)) (sym is) (go (v == w) refl)))
    where
      go : (b : Bool) → (v == w) ≡ b → IsRowOf i (if b then kept_next (kept xs w) x else kept xs w) (slice_index_or (slice_set old.rows.items v next) w None)
      go true e =
          let s : v ≡ w = eqb-true v w e in
          rw (← s, get_or-set_same old.rows.items v next None (let q = are.many in omega arith)) next_row
      go false e = rw (get_or-set_other old.rows.items v w next None (λ s. both_ways (v == w) e (eq-eqb v w (sym s)))) (are.rows w k)

  -- the cells that are taken then
  taken_next_is : (table : TakenCells) → ((c : Cell) → has_taken table c ≡ is_taken_then old.table row next (is_changed row r x.entry.reply) c) → (c : Cell) → has_taken table c ≡ (nat_le at c.step && is_owned i n (xs ++ x ∷ []) c)
  taken_next_is table is c = is c ∙ go (is_changed row r x.entry.reply) refl
    where
      snoc : at ≤ c.step → is_owned i n (xs ++ x ∷ []) c ≡ (in_spans (spans_in next) c || (is_owned i n xs c && not (in_spans (spans_in row) c)))
      snoc k =
          is_owned-snoc i n xs x at c apart (rw caller l) k
          ∙ ap (λ u. has_cell i c (kept_next (kept xs u) x) || (is_owned i n xs c && not (owns i xs c u))) caller
          ∙ (λ j. row_has i (kept_next (kept xs v) x) next c next_row j || (is_owned i n xs c && not (row_has i (kept xs v) row c own_row j)))

      swap : (a b : Bool) → (a || b) ≡ (b || a)
      swap true true = refl
      swap true false = refl
      swap false true = refl
      swap false false = refl

      owned : at ≤ c.step → has_taken old.table c ≡ is_owned i n xs c
      owned k = are.cells c ∙ ap (λ b. b && is_owned i n xs c) (le-leb at c.step k)

      past : c.step < at → nat_le at c.step ≡ false
      past k = lt-leb at c.step k

      none_before : c.step < at → is_changed row r x.entry.reply ≡ true → in_spans (spans_in next) c ≡ false
      none_before k e = before (is_confirm x.entry.reply) (is_named (given_up r.message.body) row) refl e
        where
          before : (b d : Bool) → is_confirm x.entry.reply ≡ b → (b || d) ≡ true → in_spans (spans_in (if b then Some (record { id = place; sheet = granted_sheet r x.entry.reply }) else if d then None else row)) c ≡ false
          before true d f g = false_from_ne_true (in_spans (granted_sheet r x.entry.reply).spans c) (λ t. (let q : at ≤ c.step = later f c t in absurd (omega arith)))
          before false true f g = refl
          before false false f g = absurd (cc)

      unchanged : (b d : Bool) → is_confirm x.entry.reply ≡ b → is_named (given_up r.message.body) row ≡ d → (b || d) ≡ false → kept_next (kept xs x.entry.caller) x ≡ kept xs x.entry.caller
      unchanged true d f g h = absurd (cc)
      unchanged false true f g h = absurd (cc)
      unchanged false false f g h = rw (f, said, caller) (same_kept i (given_up r.message.body) (kept xs v) row own_row g)

      go : (b : Bool) → is_changed row r x.entry.reply ≡ b → (if b then (has_taken old.table c && not (in_spans (spans_in row) c)) || in_spans (spans_in next) c else has_taken old.table c) ≡ (nat_le at c.step && is_owned i n (xs ++ x ∷ []) c)
      go true e = elim (cases_lt c.step at) [
        | inl k ↦ rw (are.cells c, past k, none_before k e) refl
        | inr k ↦ (λ j. (owned k j && not (in_spans (spans_in row) c)) || in_spans (spans_in next) c)
            ∙ swap (is_owned i n xs c && not (in_spans (spans_in row) c)) (in_spans (spans_in next) c)
            ∙ sym (snoc k)
            ∙ sym (ap (λ b. b && is_owned i n (xs ++ x ∷ []) c) (le-leb at c.step k))
      ]
      go false e =
          are.cells c
          ∙ ap (λ b. nat_le at c.step && b) (sym (is_owned-same i n xs x c (unchanged (is_confirm x.entry.reply) (is_named (given_up r.message.body) row) refl refl e)))

  -- the reservations of one more fresh message
  pub reserved_next : new.rows.items ≡ slice_set old.rows.items v next → new.table ≡ record old.table { cells = new.table.cells } → ((c : Cell) → has_taken new.table c ≡ is_taken_then old.table row next (is_changed row r x.entry.reply) c) → AreReserved i n (xs ++ x ∷ []) at new
  reserved_next rows table cells = record {
    many = rw (rows, length-set) are.many;
    rows = rows_next new.rows.items rows;
    size = rw table are.size;
    horizon = rw table are.horizon;
    current = rw table are.current;
    cells = taken_next_is new.table cells;
  }
