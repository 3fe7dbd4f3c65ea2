-- Finite sets of cells.
use Rattle.std.specs.Prelude.{ℕ, ◌+◌, Bool, ◌&&◌, nat_le, nat_lt, refl}
use Rattle.std.specs.declared.cmp.Ordering.{Ordering}
use Rattle.std.specs.Ordering.{nat_cmp, ordering_then}
use Rattle.std.specs.FinSet as set
use Rattle.std.specs.Coded.{Coded, code_by, coded×, coded_ℕ}
use Rattle.aim_geometry.specs.Cells.{Cell, cell_at}

-- by step, then by row, then by column
abbrev pub cell_cmp : Cell → Cell → Ordering
cell_cmp a b = ordering_then (nat_cmp a.step b.step) (ordering_then (nat_cmp a.row b.row) (nat_cmp a.col b.col))

abbrev pub Cells : Type 0
Cells = set.FinSet cell_cmp

-- what a table is seen as: how many rows and columns it has, how many steps it has from the current one on,
-- and the cells of these that are taken
pub record TakenCells : Type 0 where
  pub size : ℕ
  pub horizon : ℕ
  pub current : ℕ
  pub cells : Cells

-- whether the cell is taken
abbrev pub has_cell : TakenCells → Cell → Bool
has_cell table cell = set.contains table.cells cell

-- whether the step is one of a table's
abbrev pub in_range : ℕ → ℕ → ℕ → Bool
in_range now horizon step = nat_le now step && nat_lt step (now + horizon)

-- whether the cell is one that a table has
abbrev pub in_box : ℕ → ℕ → ℕ → Cell → Bool
in_box size horizon now cell = in_range now horizon cell.step && (nat_lt cell.row size && nat_lt cell.col size)

abbrev pub cell_code : Coded Cell
cell_code = code_by (ℕ × (ℕ × ℕ)) (coded× coded_ℕ (coded× coded_ℕ coded_ℕ)) (λ c. (c.step, (c.row, c.col))) (λ p. cell_at p.0 p.1.0 p.1.1) (λ _. refl)

abbrev pub taken_code : Coded TakenCells
taken_code = code_by (ℕ × (ℕ × (ℕ × Cells))) (coded× coded_ℕ (coded× coded_ℕ (coded× coded_ℕ (set.code cell_code)))) (λ t. (t.size, (t.horizon, (t.current, t.cells))))
    (λ p. record { size = p.0; horizon = p.1.0; current = p.1.1.0; cells = p.1.1.1 }) (λ _. refl)
