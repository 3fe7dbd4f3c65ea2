-- What an answer makes of a vehicle's reservation.
use Rattle.std.proofs.Common.{◌≡◌, ℕ, ◌+◌, ◌≤◌, Bool, true, false, Option, Some, None, refl, arith, ◌&&◌, ◌||◌, not, length}
use Rattle.std.specs.Prelude.{if◌then◌else◌}
use Rattle.aim_messages.specs.declared.replies.Reply.{Reply}
use Rattle.aim_rules.specs.History.{given_up, is_confirm}
use Rattle.aim_rules.specs.Holds.{is_fast}
use Rattle.aim_geometry.specs.Cells.{Cell}
use Rattle.aim_sheets.specs.Spans.{in_spans}
use Rattle.aim_tiles.specs.Cells.{TakenCells, has_cell}
use Rattle.aim_requests.specs.Requests.{Request}
use Rattle.aim_reservations.specs.Keeping.{granted_sheet, is_changed, is_named, is_taken_then, row_count, row_next, spans_moved}
use Rattle.aim_reservations.specs.Rows.{spans_in}
use Rattle.aim_reservations.specs.declared.reservations.Reservation.{Reservation}

pub granted_none : (r : Reply) → None ≡ (if is_confirm r then Some (is_fast r) else None) → is_confirm r ≡ false
granted_none r e = go (is_confirm r) e
  where
    go : (b : Bool) → None ≡ (if b then Some (is_fast r) else None) → b ≡ false
    go true f = absurd (cc)
    go false f = refl

pub granted_some : (r : Reply) (fast : Bool) → Some fast ≡ (if is_confirm r then Some (is_fast r) else None) → (is_confirm r ≡ true) × (is_fast r ≡ fast)
granted_some r fast e = go (is_confirm r) e
  where
    go : (b : Bool) → Some fast ≡ (if b then Some (is_fast r) else None) → (b ≡ true) × (is_fast r ≡ fast)
    go true f = (refl, (let q : is_fast r ≡ fast = cc in q))
    go false f = absurd (cc)

-- without a Confirm the cells are those once the reservation that is named is given up
pub cells_kept : (table : TakenCells) (row : Option Reservation) (place : ℕ) (r : Request) (reply : Reply) (c : Cell) → is_confirm reply ≡ false →
    is_taken_then table row None (is_named (given_up r.message.body) row) c ≡ is_taken_then table row (row_next row place r reply) (is_changed row r reply) c
cells_kept table row place r reply c none = go (is_confirm reply) (is_named (given_up r.message.body) row) none
  where
    go : (a b : Bool) → a ≡ false → is_taken_then table row None b c ≡ is_taken_then table row (if a then Some (record { id = place; sheet = granted_sheet r reply }) else if b then None else row) (a || b) c
    go true b e = absurd (cc)
    go false true e = refl
    go false false e = refl

-- with a Confirm the row is the reservation of the granted trial's sheet
pub row_granted : (row : Option Reservation) (place : ℕ) (r : Request) (reply : Reply) (fast : Bool) →
    Some fast ≡ (if is_confirm reply then Some (is_fast reply) else None) →
    Some (record { id = place; sheet = if fast then r.first else r.second }) ≡ row_next row place r reply
row_granted row place r reply fast e = go (is_confirm reply) (is_fast reply) e
  where
    go : (a b : Bool) → Some fast ≡ (if a then Some b else None) →
        Some (record { id = place; sheet = if fast then r.first else r.second })
        ≡ (if a then Some (record { id = place; sheet = if b then r.first else r.second }) else if is_named (given_up r.message.body) row then None else row)
    go true b f = let q : fast ≡ b = cc in rw q refl
    go false b f = absurd (cc)

-- with a Confirm the cells are those of the granted trial in the place of the vehicle's
pub cells_granted : (table : TakenCells) (row : Option Reservation) (place : ℕ) (r : Request) (reply : Reply) (fast : Bool) (c : Cell) →
    Some fast ≡ (if is_confirm reply then Some (is_fast reply) else None) →
    ((has_cell table c && not (in_spans (spans_in row) c)) || in_spans (if fast then r.first else r.second).spans c)
    ≡ is_taken_then table row (row_next row place r reply) (is_changed row r reply) c
cells_granted table row place r reply fast c e =
    rw (← row_granted row place r reply fast e) (rw (granted_some reply fast e).0 refl)

-- with a Confirm one sheet of two goes to the pool, and the vehicle's
pub sheets_granted : (n o : ℕ) (row : Option Reservation) (place : ℕ) (r : Request) (reply : Reply) (fast : Bool) →
    Some fast ≡ (if is_confirm reply then Some (is_fast reply) else None) → n ≡ o + 1 + row_count row →
    n + row_count (row_next row place r reply) ≡ o + row_count row + 2
sheets_granted n o row place r reply fast e count = rw (← row_granted row place r reply fast e) (omega arith)

-- with a Confirm the spans of both are what it costs
pub cost_granted : (n o : ℕ) (row : Option Reservation) (place : ℕ) (r : Request) (reply : Reply) (fast : Bool) →
    Some fast ≡ (if is_confirm reply then Some (is_fast reply) else None) →
    n ≤ o + length (spans_in row) + length (if fast then r.first else r.second).spans →
    n ≤ o + spans_moved row (row_next row place r reply) (is_changed row r reply)
cost_granted n o row place r reply fast e cost =
    rw (← row_granted row place r reply fast e) (rw (granted_some reply fast e).0 (omega arith))

-- without a Confirm the row is that once the reservation that is named is given up
pub row_kept : (row : Option Reservation) (place : ℕ) (r : Request) (reply : Reply) → is_confirm reply ≡ false →
    (if is_named (given_up r.message.body) row then None else row) ≡ row_next row place r reply
row_kept row place r reply none = rw none refl

-- without a Confirm two sheets go to the pool, and that of the reservation that is given up
pub sheets_kept : (n o : ℕ) (row : Option Reservation) (place : ℕ) (r : Request) (reply : Reply) → is_confirm reply ≡ false →
    n ≡ o + 2 + (if is_named (given_up r.message.body) row then 1 else 0) →
    n + row_count (row_next row place r reply) ≡ o + row_count row + 2
sheets_kept n o row place r reply none count = rw (← row_kept row place r reply none) (go row count)
  where
    some : (b : Bool) (own : Reservation) → n ≡ o + 2 + (if b then 1 else 0) →
        n + row_count (if b then None else Some own) ≡ o + 1 + 2
    some true own f = omega arith
    some false own f = omega arith

    go : (w : Option Reservation) → n ≡ o + 2 + (if is_named (given_up r.message.body) w then 1 else 0) →
        n + row_count (if is_named (given_up r.message.body) w then None else w) ≡ o + row_count w + 2
    go None f = omega arith
    go (Some own) f = some (is_named (given_up r.message.body) (Some own)) own f

-- without a Confirm the spans of the reservation that is given up are what it costs
pub cost_kept : (n o : ℕ) (row : Option Reservation) (place : ℕ) (r : Request) (reply : Reply) → is_confirm reply ≡ false →
    n ≤ o + (if is_named (given_up r.message.body) row then length (spans_in row) else 0) →
    n ≤ o + spans_moved row (row_next row place r reply) (is_changed row r reply)
cost_kept n o row place r reply none cost =
    go (is_confirm reply) (is_named (given_up r.message.body) row) none cost
  where
    go : (a b : Bool) → a ≡ false → n ≤ o + (if b then length (spans_in row) else 0) →
        n ≤ o + spans_moved row (if a then Some (record { id = place; sheet = granted_sheet r reply }) else if b then None else row) (a || b)
    go true b e f = absurd (cc)
    go false true e f = omega arith
    go false false e f = omega arith
