-- The lines of the stays of cells, one more cell at a time.
use Rattle.std.proofs.Common.{◌≡◌, ℕ, suc, ◌+◌, ◌<◌, ◌≤◌, List, [], ◌∷◌, ◌++◌, drop, get_or, length, map, Option, arith, ap, sym, ◌∙◌}
use Rattle.std.proofs.lemmas.List.{drop_all}
use Rattle.std.proofs.Math.Seq.{drop-cons}
use Rattle.aim_geometry.specs.Cells as rules
use Rattle.aim_safety.specs.declared.cells.Cell.{Cell}
use Rattle.aim_safety.specs.Tiles.{cell_of}
use Rattle.aim_report.specs.declared.stays.Stay.{Stay}
use Rattle.aim_report.specs.Stays.{stays_after, stays_behind}
use Rattle.aim_report.specs.Reports.{stay_lines}

-- the cells from one on are that one and those behind it
from_one_on : (cells : List Cell) (i : ℕ) (d : Cell) → i < length cells → map cell_of (drop i cells) ≡ cell_of (get_or cells i d) ∷ map cell_of (drop (i + 1) cells)
from_one_on cells i d there =
    let s : suc i ≡ i + 1 = omega arith in
    ap (map cell_of) (drop-cons cells i d there ∙ ap (λ n. get_or cells i d ∷ drop n cells) s)

-- what a step appends and the lines that are to come, where both sides agreed before the step
pub lines_go_on : (vehicle : ℕ) (cells : List Cell) (i : ℕ) (d : Cell) (old new whole : List ℕ) (before : Option Stay) (next : Stay) → i < length cells
    → old ++ stay_lines vehicle (stays_behind before (map cell_of (drop i cells))) ≡ whole
    → ((cs : List rules.Cell) → new ++ stay_lines vehicle (stays_after next cs) ≡ old ++ stay_lines vehicle (stays_behind before (cell_of (get_or cells i d) ∷ cs)))
    → new ++ stay_lines vehicle (stays_after next (map cell_of (drop (i + 1) cells))) ≡ whole
lines_go_on vehicle cells i d old new whole before next there agreed step =
    step (map cell_of (drop (i + 1) cells)) ∙ ap (λ cs. old ++ stay_lines vehicle (stays_behind before cs)) (sym (from_one_on cells i d there)) ∙ agreed

-- behind the last cell
pub lines_end : (vehicle : ℕ) (cells : List Cell) (i : ℕ) (old new whole : List ℕ) (before : Option Stay) → length cells ≤ i
    → old ++ stay_lines vehicle (stays_behind before (map cell_of (drop i cells))) ≡ whole
    → new ≡ old ++ stay_lines vehicle (stays_behind before []) → new ≡ whole
lines_end vehicle cells i old new whole before past agreed last =
    last ∙ ap (λ cs. old ++ stay_lines vehicle (stays_behind before (map cell_of cs))) (sym (drop_all i cells past)) ∙ agreed
