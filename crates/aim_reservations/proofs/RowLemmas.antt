-- The rows of vehicles.
use Rattle.std.proofs.Common.{◌≡◌, ℕ, ◌<◌, ◌≤◌, ◌+◌, Bool, ◌&&◌, ◌||◌, not, add-one, arith, refl, ap, List, length, get_or, Option, None, option_map, ◌∙◌}
use Rattle.std.proofs.lemmas.List.{get_or_default}
use Rattle.aim_geometry.specs.Bounded.{some_below}
use Rattle.aim_geometry.specs.Cells.{Cell}
use Rattle.aim_sheets.specs.Spans.{in_spans}
use Rattle.aim_tiles.specs.Cells.{TakenCells, has_cell}
use Rattle.aim_reservations.specs.declared.reservations.Reservation.{Reservation}
use Rattle.aim_reservations.specs.Rows.{row_of, spans_in}

-- a row that is read is the vehicle's
pub row_read : (rows : List (Option Reservation)) (v : ℕ) (x : Option Reservation) → v < length rows → x ≡ get_or rows v x → x ≡ row_of rows v
row_read rows v x l read = read ∙ get_or_default rows v x None l

-- the sheet of a row that was read, once it is taken apart
pub sheet_read : (rows : List (Option Reservation)) (v : ℕ) (x was got : Option Reservation) → v < length rows → x ≡ get_or rows v x → was ≡ x → was ≡ got →
    option_map (λ r. r.sheet) got ≡ option_map (λ r. r.sheet) (row_of rows v)
sheet_read rows v x was got l read same is = ap (λ o. option_map (λ r. r.sheet) o) (rw (← is) (same ∙ row_read rows v x l read))

-- the cells once those of a row that was read are let go of, and others taken
pub cells_set : (rows : List (Option Reservation)) (v : ℕ) (x own : Option Reservation) (before between after : TakenCells) (c : Cell) → v < length rows → x ≡ get_or rows v x →
    has_cell between c ≡ (has_cell before c && not (in_spans (spans_in x) c)) → has_cell after c ≡ (has_cell between c || in_spans (spans_in own) c) →
    has_cell after c ≡ (has_cell before c && not (in_spans (spans_in (row_of rows v)) c) || in_spans (spans_in own) c)
cells_set rows v x own before between after c l read released claimed =
    claimed
    ∙ ap (λ b. b || in_spans (spans_in own) c) (released ∙ ap (λ row. has_cell before c && not (in_spans (spans_in row) c)) (row_read rows v x l read))

-- what it costs to let go of the cells of a row that was read, and to take others
pub cost_set : (rows : List (Option Reservation)) (v : ℕ) (x own : Option Reservation) (before between after : ℕ) → v < length rows → x ≡ get_or rows v x →
    between ≤ before + length (spans_in x) → after ≤ between + length (spans_in own) →
    after ≤ before + length (spans_in (row_of rows v)) + length (spans_in own)
cost_set rows v x own before between after l read released claimed = rw (← row_read rows v x l read) (omega (arith, released, claimed))

-- one vehicle more
pub one_more : (n : ℕ) (f : ℕ → Bool) (was now b : Bool) → was ≡ some_below n f → f n ≡ b → now ≡ (was || b) → now ≡ some_below (n + 1) f
one_more n f was now b s e g = rw (add-one, g, s, e) refl
