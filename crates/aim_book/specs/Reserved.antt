-- The reservations that a manager keeps, and how they follow a history.
use Rattle.std.specs.Prelude.{◌≡◌, ℕ, ◌<◌, ◌+◌, ◌==◌, ◌&&◌, nat_le, if◌then◌else◌, List, length, Option, Some, None}
use Rattle.aim_geometry.specs.Cells.{Cell}
use Rattle.aim_layout.specs.Intersection.{Intersection}
use Rattle.aim_sheets.specs.Spans.{in_spans}
use Rattle.aim_tiles.specs.Cells.{has_cell}
use Rattle.aim_rules.specs.History.{Fresh}
use Rattle.aim_rules.specs.Holds.{is_granted}
use Rattle.aim_rules.specs.Kept.{kept, is_owned}
use Rattle.aim_book.specs.Costs.{granted_spans}
use Rattle.aim_reservations.specs.Rows.{row_of}
use Rattle.aim_reservations.specs.declared.reservations.Reservation.{Reservation}
use Rattle.aim_reservations.specs.declared.reservations.Reservations.{Reservations}

-- the reservation is the one that a Confirm grants
pub record IsReservationOf (i : Intersection) (x : Fresh) (r : Reservation) : Type 0 where
  pub id : r.id ≡ x.place
  pub cells : (c : Cell) → in_spans r.sheet.spans c ≡ is_granted i x c
  pub count : length r.sheet.spans ≡ granted_spans i x
  pub room : r.sheet.room ≡ i.grid.spans

-- there is a reservation exactly where a Confirm is kept, and it is that one's
abbrev pub IsRowOf : Intersection → Option Fresh → Option Reservation → Type 0
IsRowOf i None None = Unit {0}
IsRowOf i (Some x) (Some r) = IsReservationOf i x r
IsRowOf i None (Some r) = ⊥
IsRowOf i (Some x) None = ⊥

-- after fresh messages, at a time: each vehicle's reservation is what it keeps, and the table has the cells of these that
-- are not past
pub record AreReserved {L : Type 0} (i : Intersection) (n : ℕ) (xs : List Fresh) (at : ℕ) (r : Reservations L) : Type 0 where
  pub many : length r.rows.items ≡ n
  pub rows : (v : ℕ) → v < n → IsRowOf i (kept xs v) (row_of r.rows.items v)
  pub size : r.table.size ≡ i.grid.n
  pub horizon : r.table.horizon ≡ i.times.horizon
  pub current : r.table.current ≡ at
  pub cells : (c : Cell) → has_cell r.table c ≡ (nat_le at c.step && is_owned i n xs c)

-- how many spans are let go of and taken where one reservation, if any, stands in the place of another one
abbrev pub rows_exchanged : Option Reservation → Option Reservation → ℕ
rows_exchanged None None = 0
rows_exchanged None (Some new) = length new.sheet.spans
rows_exchanged (Some old) None = length old.sheet.spans
rows_exchanged (Some old) (Some new) = if old.id == new.id then 0 else length old.sheet.spans + length new.sheet.spans
