-- The reservations of vehicles, one row each.
use Rattle.std.specs.Prelude.{◌≡◌, ℕ, Bool, List, [], Option, Some, None, slice_index_or}
use Rattle.aim_geometry.specs.Cells.{Cell}
use Rattle.aim_sheets.specs.declared.spans.Span.{Span}
use Rattle.aim_sheets.specs.Sheets.{Spans}
use Rattle.aim_sheets.specs.Spans.{in_spans}
use Rattle.aim_reservations.specs.declared.reservations.Reservation.{Reservation}

-- the vehicle's reservation
abbrev pub row_of : List (Option Reservation) → ℕ → Option Reservation
row_of rows v = slice_index_or rows v None

-- the spans of a reservation, if there is one
abbrev pub spans_in : Option Reservation → List Span
spans_in None = []
spans_in (Some r) = r.sheet.spans

-- whether the vehicle has reserved the cell
abbrev pub is_reserved : List (Option Reservation) → ℕ → Cell → Bool
is_reserved rows v c = in_spans (spans_in (row_of rows v)) c

-- how many sheets there are
abbrev pub sheet_count : Option Spans → ℕ
sheet_count None = 0
sheet_count (Some sheet) = 1

-- the sheet, if there is one, has this room
abbrev pub HasRoom : ℕ → Option Spans → Type 0
HasRoom room None = Unit {0}
HasRoom room (Some sheet) = sheet.room ≡ room
