-- The set of a table's marked cells.
use Rattle.std.proofs.Common.{◌≡◌, ℕ, zero, suc, ◌+◌, ◌<◌, ◌≤◌, Bool, true, ◌&&◌, ◌||◌, List, refl, sym, ap, subst, ◌∙◌, inl, inr, arith}
use Rattle.std.specs.Prelude.{◌==◌, nat_le, nat_lt}
use Rattle.std.specs.List.{list_any}
use Rattle.std.specs.Ordering.{nat_cmp, ordering_then, eq_by_cmp}
use Rattle.std.specs.Cmp.{IsTotalOrder, then_total, on_total, nat_cmp_total, tied_then, unsigned_tied, Equal-is, both_ways as same_tests}
use Rattle.std.specs.FinSet as set
use Rattle.std.proofs.lemmas.Bool.{and_parts, and_from, or_cases, or_left, or_right, eqb-true, eq-eqb, lt-ltb, ltb-true, le-leb, leb-true, cases_order}
use Rattle.std.proofs.lemmas.List.Folds.{list_any-append}
use Rattle.aim_geometry.specs.Cells.{Cell, cell_at}
use Rattle.aim_tiles.specs.Cells.{cell_cmp, in_box, in_range}
use Rattle.aim_tiles.specs.Pages.{has_mark, is_marked, column_cells, row_cells, step_cells, marked_cells}

pub cell_cmp_total : IsTotalOrder cell_cmp
cell_cmp_total = then_total (on_total (λ (c : Cell). c.step) nat_cmp_total) (then_total (on_total (λ (c : Cell). c.row) nat_cmp_total) (on_total (λ (c : Cell). c.col) nat_cmp_total))

-- only equal cells tie
tie_is : (a b : Cell) → eq_by_cmp cell_cmp a b ≡ (a.step == b.step && (a.row == b.row && a.col == b.col))
tie_is a b =
    sym (tied_then (nat_cmp a.step b.step) (ordering_then (nat_cmp a.row b.row) (nat_cmp a.col b.col)))
    ∙ rw (sym (tied_then (nat_cmp a.row b.row) (nat_cmp a.col b.col)), unsigned_tied a.step b.step, unsigned_tied a.row b.row, unsigned_tied a.col b.col) refl

pub cells_tie : (a b : Cell) → eq_by_cmp cell_cmp a b ≡ true → a ≡ b
cells_tie a b tie =
    let parts = and_parts (a.step == b.step) (a.row == b.row && a.col == b.col) (sym (tie_is a b) ∙ tie) in
    let more = and_parts (a.row == b.row) (a.col == b.col) parts.1 in
    let e0 : a.step ≡ b.step = eqb-true a.step b.step parts.0 in
    let e1 : a.row ≡ b.row = eqb-true a.row b.row more.0 in
    let e2 : a.col ≡ b.col = eqb-true a.col b.col more.1 in
    λ i. (cell_at (e0 i) (e1 i) (e2 i))

pub ties_itself : (a : Cell) → eq_by_cmp cell_cmp a a ≡ true
ties_itself a = tie_is a a ∙ and_from (a.step == a.step) (a.row == a.row && a.col == a.col) (eq-eqb a.step a.step refl) (and_from (a.row == a.row) (a.col == a.col) (eq-eqb a.row a.row refl) (eq-eqb a.col a.col refl))

abbrev among : List Cell → Cell → Bool
among cells q = list_any (eq_by_cmp cell_cmp q) cells

-- the cells of a row
record InRow (step row count : ℕ) (q : Cell) : Type 0 where
  step_is : q.step ≡ step
  row_is : q.row ≡ row
  column : q.col < count

in_row : (step row count : ℕ) (q : Cell) → among (column_cells step row count) q ≡ true → InRow step row count q
unfolding column_cells
in_row step row zero q is = absurd (cc)
in_row step row (suc count) q is = elim (or_cases (eq_by_cmp cell_cmp q (cell_at step row count)) (among (column_cells step row count) q) is) [
  | inl tie ↦ (let e : q ≡ (cell_at step row count) = cells_tie q (cell_at step row count) tie in
      let e2 : q.col ≡ count = ap (λ (c : Cell). c.col) e in
      record { step_is = ap (λ (c : Cell). c.step) e; row_is = ap (λ (c : Cell). c.row) e; column = omega arith })
  | inr rest ↦ (let r : InRow step row count q = in_row step row count q rest in
      record { step_is = r.step_is; row_is = r.row_is; column = omega (arith, r.column) })
]

from_row : (step row count column : ℕ) → column < count → among (column_cells step row count) (cell_at step row column) ≡ true
unfolding column_cells
from_row step row zero column lt = absurd (omega arith)
from_row step row (suc count) column lt = elim (cases_order column count) [
  | inl e ↦ subst (λ (k : ℕ). (eq_by_cmp cell_cmp (cell_at step row column) (cell_at step row k) || among (column_cells step row count) (cell_at step row column)) ≡ true) e
      (or_left (eq_by_cmp cell_cmp (cell_at step row column) (cell_at step row column)) (among (column_cells step row count) (cell_at step row column)) (ties_itself (cell_at step row column)))
  | inr (inl below) ↦ or_right (eq_by_cmp cell_cmp (cell_at step row column) (cell_at step row count)) (among (column_cells step row count) (cell_at step row column)) (from_row step row count column below)
  | inr (inr above) ↦ absurd (omega arith)
]

-- the cells of a step
record InStep (size step count : ℕ) (q : Cell) : Type 0 where
  step_is : q.step ≡ step
  row : q.row < count
  column : q.col < size

in_step : (size step count : ℕ) (q : Cell) → among (row_cells size step count) q ≡ true → InStep size step count q
unfolding row_cells
in_step size step zero q is = absurd (cc)
in_step size step (suc count) q is =
    elim (or_cases (among (column_cells step count size) q) (among (row_cells size step count) q) (sym (list_any-append (eq_by_cmp cell_cmp q) (column_cells step count size) (row_cells size step count)) ∙ is)) [
      | inl here ↦ (let r : InRow step count size q = in_row step count size q here in
          record { step_is = r.step_is; row = omega (arith, r.row_is); column = r.column })
      | inr rest ↦ (let r : InStep size step count q = in_step size step count q rest in
          record { step_is = r.step_is; row = omega (arith, r.row); column = r.column })
    ]

from_step : (size step count row column : ℕ) → row < count → column < size → among (row_cells size step count) (cell_at step row column) ≡ true
unfolding row_cells
from_step size step zero row column lt fits = absurd (omega arith)
from_step size step (suc count) row column lt fits =
    list_any-append (eq_by_cmp cell_cmp (cell_at step row column)) (column_cells step count size) (row_cells size step count)
    ∙ elim (cases_order row count) [
      | inl e ↦ or_left (among (column_cells step count size) (cell_at step row column)) (among (row_cells size step count) (cell_at step row column))
          (subst (λ (k : ℕ). among (column_cells step k size) (cell_at step row column) ≡ true) e (from_row step row size column fits))
      | inr (inl below) ↦ or_right (among (column_cells step count size) (cell_at step row column)) (among (row_cells size step count) (cell_at step row column)) (from_step size step count row column below fits)
      | inr (inr above) ↦ absurd (omega arith)
    ]

-- the cells of steps
record InSteps (size now count : ℕ) (q : Cell) : Type 0 where
  from : now ≤ q.step
  below : q.step < now + count
  row : q.row < size
  column : q.col < size

in_steps : (size now count : ℕ) (q : Cell) → among (step_cells size now count) q ≡ true → InSteps size now count q
unfolding step_cells
in_steps size now zero q is = absurd (cc)
in_steps size now (suc count) q is =
    elim (or_cases (among (row_cells size (now + count) size) q) (among (step_cells size now count) q) (sym (list_any-append (eq_by_cmp cell_cmp q) (row_cells size (now + count) size) (step_cells size now count)) ∙ is)) [
      | inl here ↦ (let r : InStep size (now + count) size q = in_step size (now + count) size q here in
          record { from = omega (arith, r.step_is); below = omega (arith, r.step_is); row = r.row; column = r.column })
      | inr rest ↦ (let r : InSteps size now count q = in_steps size now count q rest in
          record { from = r.from; below = omega (arith, r.below); row = r.row; column = r.column })
    ]

from_steps : (size now count step row column : ℕ) → now ≤ step → step < now + count → row < size → column < size → among (step_cells size now count) (cell_at step row column) ≡ true
unfolding step_cells
from_steps size now zero step row column from below r k = absurd (omega arith)
from_steps size now (suc count) step row column from below r k =
    list_any-append (eq_by_cmp cell_cmp (cell_at step row column)) (row_cells size (now + count) size) (step_cells size now count)
    ∙ elim (cases_order step (now + count)) [
      | inl e ↦ or_left (among (row_cells size (now + count) size) (cell_at step row column)) (among (step_cells size now count) (cell_at step row column))
          (subst (λ (s : ℕ). among (row_cells size s size) (cell_at step row column) ≡ true) e (from_step size step size row column r k))
      | inr (inl earlier) ↦ or_right (among (row_cells size (now + count) size) (cell_at step row column)) (among (step_cells size now count) (cell_at step row column)) (from_steps size now count step row column from earlier r k)
      | inr (inr later) ↦ absurd (omega arith)
    ]

-- the tests of a table's cells as facts
pub record InBox (size horizon now : ℕ) (q : Cell) : Type 0 where
  pub from : now ≤ q.step
  pub below : q.step < now + horizon
  pub row : q.row < size
  pub column : q.col < size

pub box_parts : (size horizon now : ℕ) (q : Cell) → in_box size horizon now q ≡ true → InBox size horizon now q
box_parts size horizon now q is =
    let both = and_parts (in_range now horizon q.step) (nat_lt q.row size && nat_lt q.col size) is in
    let steps = and_parts (nat_le now q.step) (nat_lt q.step (now + horizon)) both.0 in
    let tiles = and_parts (nat_lt q.row size) (nat_lt q.col size) both.1 in
    record { from = leb-true now q.step steps.0; below = ltb-true q.step (now + horizon) steps.1; row = ltb-true q.row size tiles.0; column = ltb-true q.col size tiles.1 }

pub box_from : (size horizon now : ℕ) (q : Cell) → InBox size horizon now q → in_box size horizon now q ≡ true
box_from size horizon now q is =
    and_from (in_range now horizon q.step) (nat_lt q.row size && nat_lt q.col size)
    (and_from (nat_le now q.step) (nat_lt q.step (now + horizon)) (le-leb now q.step is.from) (lt-ltb q.step (now + horizon) is.below))
    (and_from (nat_lt q.row size) (nat_lt q.col size) (lt-ltb q.row size is.row) (lt-ltb q.col size is.column))

among_steps : (size horizon now : ℕ) (q : Cell) → among (step_cells size now horizon) q ≡ in_box size horizon now q
among_steps size horizon now q = same_tests (among (step_cells size now horizon) q) (in_box size horizon now q)
    (λ is. (let r : InSteps size now horizon q = in_steps size now horizon q is in box_from size horizon now q (record { from = r.from; below = r.below; row = r.row; column = r.column })))
    (λ is. (let r : InBox size horizon now q = box_parts size horizon now q is in from_steps size now horizon q.step q.row q.col r.from r.below r.row r.column))

-- a cell is one of the marked cells where it is marked
pub contains-marked_cells : (words : List ℕ) (size horizon now : ℕ) (q : Cell) → set.contains (marked_cells words size horizon now) q ≡ is_marked words size horizon now q
unfolding marked_cells
contains-marked_cells words size horizon now q =
    set.contains-retain (set.from_list (step_cells size now horizon)) (has_mark words size horizon) q
    (λ x tie. ap (has_mark words size horizon) (sym (cells_tie q x ((Equal-is (cell_cmp q x)).1 tie))))
    ∙ ap (λ b. b && has_mark words size horizon q) (set.contains-from_list cell_cmp_total (step_cells size now horizon) q ∙ among_steps size horizon now q)
