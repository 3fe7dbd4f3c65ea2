-- What a message moves of the rows is what they exchange.
use Rattle.std.proofs.Common.{◌≡◌, ℕ, ◌<◌, ◌≤◌, Bool, true, false, ◌||◌, List, length, Option, Some, None, refl, arith}
use Rattle.std.specs.Prelude.{◌==◌, if◌then◌else◌}
use Rattle.std.proofs.lemmas.Bool.{ne_eqb}
use Rattle.aim_messages.specs.declared.entries.Entry.{Entry}
use Rattle.aim_messages.specs.declared.replies.Reply.{Reply}
use Rattle.aim_layout.specs.Intersection.{Intersection}
use Rattle.aim_requests.specs.Requests.{Request}
use Rattle.aim_rules.specs.History.{Fresh, fresh, given_up, is_confirm}
use Rattle.aim_rules.specs.Kept.{kept}
use Rattle.aim_rules.proofs.TakenLaws.{kept-is, place-below}
use Rattle.aim_reservations.specs.Keeping.{granted_sheet, is_changed, is_named, row_next, spans_moved}
use Rattle.aim_book.specs.Reserved.{IsRowOf, rows_exchanged}
use Rattle.aim_reservations.specs.declared.reservations.Reservation.{Reservation}

-- a vehicle keeps what stands before in the journal
earlier : (i : Intersection) (h : List Entry) (v : ℕ) (o : Option Fresh) (row : Reservation) → kept (fresh h) v ≡ o → IsRowOf i o (Some row) → row.id < length h
earlier i h v None row e of = absurd of
earlier i h v (Some x) row e of = let l = place-below h x (kept-is (fresh h) v x e).there in let q = of.id in omega arith

-- what is moved is exchanged
pub moved_fits : (i : Intersection) (h : List Entry) (v place : ℕ) (row : Option Reservation) (r : Request) (reply : Reply) → IsRowOf i (kept (fresh h) v) row → place ≡ length h →
    spans_moved row (row_next row place r reply) (is_changed row r reply) ≤ rows_exchanged row (row_next row place r reply)
moved_fits i h v place None r reply of at = go (is_confirm reply)
  where
    go : (b : Bool) → spans_moved None (if b then Some (record { id = place; sheet = granted_sheet r reply }) else None) (b || false) ≤ rows_exchanged None (if b then Some (record { id = place; sheet = granted_sheet r reply }) else None)
    go true = omega arith
    go false = omega arith
moved_fits i h v place (Some row) r reply of at = go (is_confirm reply) (is_named (given_up r.message.body) (Some row))
  where
    other : (row.id == place) ≡ false
    other = ne_eqb row.id place (λ e. (let l = earlier i h v (kept (fresh h) v) row refl of in absurd (omega arith)))

    go : (b c : Bool) → spans_moved (Some row) (if b then Some (record { id = place; sheet = granted_sheet r reply }) else if c then None else Some row) (b || c)
        ≤ rows_exchanged (Some row) (if b then Some (record { id = place; sheet = granted_sheet r reply }) else if c then None else Some row)
    go true c = rw other (omega arith)
    go false true = omega arith
    go false false = omega arith
