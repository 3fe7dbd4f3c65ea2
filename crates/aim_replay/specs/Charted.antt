-- The texts of the rows of a chart.
-- No public clause cites it: only contracts of private functions.
use Rattle.std.specs.Prelude.{ℕ, nat_lt, List, if◌then◌else◌}
use Rattle.aim_messages.specs.declared.entries.Entry.{Entry}
use Rattle.aim_geometry.specs.Rects.{has_bit}
use Rattle.aim_layout.specs.Intersection.{Intersection}
use Rattle.aim_rules.specs.History.{fresh, now_of}
use Rattle.aim_rules.specs.Holds.{reservations}
use Rattle.aim_rules.specs.Charts.{blank_row, chart_row}

-- the character of a column of a row
abbrev pub mark_of : ℕ → ℕ → ℕ → ℕ
mark_of held claimed col = if has_bit held col then 35 else if has_bit claimed col then 103 else 46

-- a row of the chart of a step
abbrev pub row_text : Intersection → List Entry → ℕ → ℕ → List ℕ
row_text i h step row = if nat_lt step (now_of h 0) then blank_row i else chart_row i h (reservations i (fresh h) (now_of h 0)) step row
