-- Counts of numbers below a bound. No public clause cites this.
use Rattle.std.specs.Prelude.{ℕ, zero, suc, ◌+◌, Bool, if◌then◌else◌}
use Rattle.aim_messages.specs.declared.messages.Params.{Params}
use Rattle.aim_geometry.specs.Bounded.{some_below}
use Rattle.aim_layout.specs.Intersection.{Intersection}
use Rattle.aim_rules.specs.Motion.{sum_below}
use Rattle.aim_rules.specs.Cells.{in_cells}

-- how many numbers below n pass the test
unfoldable pub count_below : ℕ → (ℕ → Bool) → ℕ
count_below zero test = 0
count_below (suc n) test = count_below n test + (if test n then 1 else 0)

-- whether the crossing needs a cell of the row in the step
abbrev pub needs_row : Intersection → Params → Bool → ℕ → ℕ → Bool
needs_row i p fast step row = some_below i.grid.n (λ col. in_cells i p fast (record { row = row; col = col; step = step }))

-- how many rows have a cell that the crossing needs in the step
abbrev pub rows_needed : Intersection → Params → Bool → ℕ → ℕ
rows_needed i p fast step = count_below i.grid.n (needs_row i p fast step)

-- how many pairs of a step and a row have one, in the steps before that one
abbrev pub spans_before : Intersection → Params → Bool → ℕ → ℕ
spans_before i p fast step = sum_below step (rows_needed i p fast)
