-- The set of taken cells after the marks have changed.
use Rattle.std.proofs.Common.{◌≡◌, ℕ, ◌+◌, ◌-◌, ◌*◌, ◌%◌, ◌<◌, ◌≤◌, Bool, true, false, not, ◌&&◌, ◌||◌, min, List, refl, sym, ap, subst, ◌∙◌, inl, inr, arith}
use Rattle.std.specs.Prelude.{nat_le, nat_lt, replicate, slice_index}
use Rattle.std.specs.FinSet as set
use Rattle.std.specs.Cmp.{both_ways as same_tests, Equal-is}
use Rattle.std.proofs.Math.Nat.{add-mod-mod, add-mod_left, mod-eq_of_lt}
use Rattle.std.proofs.lemmas.Bool.{and_parts, and_from, and_right, cases_lt, le-leb, leb-true, lt-ltb}
use Rattle.std.proofs.lemmas.Nat.{mod_below}
use Rattle.std.proofs.lemmas.List.{get_or-replicate, get_or_past, length-replicate}
use Rattle.aim_sheets.specs.declared.spans.Span.{Span}
use Rattle.aim_geometry.specs.Cells.{Cell, cell_at}
use Rattle.aim_geometry.specs.Rects.{has_bit}
use Rattle.aim_sheets.specs.Spans.{in_spans}
use Rattle.aim_sheets.proofs.Masks.{no_bit}
use Rattle.aim_tiles.specs.Cells.{TakenCells, cell_cmp, has_cell, in_box, in_range}
use Rattle.aim_tiles.specs.Pages.{has_mark, is_marked, marked_cells, place_of}
use Rattle.aim_tiles.specs.Sheets.{AreTiles, AreAhead}
use Rattle.aim_tiles.proofs.Sets.{InBox, box_parts, box_from, contains-marked_cells, cell_cmp_total, cells_tie}

-- what a table with these pages is seen as
abbrev pub view_of : List ℕ → ℕ → ℕ → ℕ → TakenCells
view_of words size horizon now = record { size = size; horizon = horizon; current = now; cells = marked_cells words size horizon now }

has_cell-view_of : (words : List ℕ) (size horizon now : ℕ) (cell : Cell) → has_cell (view_of words size horizon now) cell ≡ is_marked words size horizon now cell
has_cell-view_of words size horizon now cell = contains-marked_cells words size horizon now cell

-- a test on a cell of the table, and on another
by_box : (box m n r : Bool) → (box ≡ true → n ≡ (m || r)) → (r ≡ true → box ≡ true) → (box && n) ≡ ((box && m) || r)
by_box true m n r is within = is refl
by_box false m n true is within = within refl
by_box false m n false is within = refl

by_box_not : (box m n r : Bool) → (box ≡ true → n ≡ (m && not r)) → (box && n) ≡ ((box && m) && not r)
by_box_not true m n r is = is refl
by_box_not false m n r is = refl

spans_in_box : (size horizon now : ℕ) (spans : List Span) → AreTiles size spans → AreAhead now horizon spans → (cell : Cell) → in_spans spans cell ≡ true → in_box size horizon now cell ≡ true
spans_in_box size horizon now spans tiles ahead cell is =
    let t = tiles cell is in
    and_from (in_range now horizon cell.step) (nat_lt cell.row size && nat_lt cell.col size) (ahead cell is) (and_from (nat_lt cell.row size) (nat_lt cell.col size) (lt-ltb cell.row size t.0) (lt-ltb cell.col size t.1))

-- the spans' cells are added
pub claimed : (size horizon now size' horizon' : ℕ) (old new : List ℕ) (spans read : List Span) (table : TakenCells) → view_of old size horizon now ≡ table → size' ≡ size → horizon' ≡ horizon → read ≡ spans
    → AreTiles table.size spans → AreAhead table.current table.horizon spans
    → ((at : ℕ) → AreAhead at horizon read → (cell : Cell) → in_box size horizon at cell ≡ true → has_mark new size horizon cell ≡ (has_mark old size horizon cell || in_spans read cell))
    → (cell : Cell) → has_cell (view_of new size' horizon' now) cell ≡ (has_cell table cell || in_spans spans cell)
claimed size horizon now size' horizon' old new spans read table is same_size same_horizon same tiles ahead marks cell =
    let tiles' : AreTiles size spans = subst (λ (t : TakenCells). AreTiles t.size spans) (sym is) tiles in
    let ahead' : AreAhead now horizon spans = subst (λ (t : TakenCells). AreAhead t.current t.horizon spans) (sym is) ahead in
    let marks' : (cell : Cell) → in_box size horizon now cell ≡ true → has_mark new size horizon cell ≡ (has_mark old size horizon cell || in_spans spans cell)
    = λ q box. marks now (subst (λ (ss : List Span). AreAhead now horizon ss) (sym same) ahead') q box ∙ ap (λ (ss : List Span). has_mark old size horizon q || in_spans ss q) same in
    (λ i. has_cell (view_of new (same_size i) (same_horizon i) now) cell)
    ∙ has_cell-view_of new size horizon now cell
    ∙ by_box (in_box size horizon now cell) (has_mark old size horizon cell) (has_mark new size horizon cell) (in_spans spans cell) (marks' cell) (spans_in_box size horizon now spans tiles' ahead' cell)
    ∙ ap (λ b. b || in_spans spans cell) (sym (has_cell-view_of old size horizon now cell) ∙ ap (λ (t : TakenCells). has_cell t cell) is)

-- the spans' cells are taken out
pub released : (size horizon now size' horizon' : ℕ) (old new : List ℕ) (spans read : List Span) (table : TakenCells) → view_of old size horizon now ≡ table → size' ≡ size → horizon' ≡ horizon → read ≡ spans
    → ((cell : Cell) → in_box size horizon now cell ≡ true → has_mark new size horizon cell ≡ (has_mark old size horizon cell && not (in_spans read cell)))
    → (cell : Cell) → has_cell (view_of new size' horizon' now) cell ≡ (has_cell table cell && not (in_spans spans cell))
released size horizon now size' horizon' old new spans read table is same_size same_horizon same marks cell =
    let marks' : in_box size horizon now cell ≡ true → has_mark new size horizon cell ≡ (has_mark old size horizon cell && not (in_spans spans cell))
    = λ box. marks cell box ∙ ap (λ (ss : List Span). has_mark old size horizon cell && not (in_spans ss cell)) same in
    (λ i. has_cell (view_of new (same_size i) (same_horizon i) now) cell)
    ∙ has_cell-view_of new size horizon now cell
    ∙ by_box_not (in_box size horizon now cell) (has_mark old size horizon cell) (has_mark new size horizon cell) (in_spans spans cell) marks'
    ∙ ap (λ b. b && not (in_spans spans cell)) (sym (has_cell-view_of old size horizon now cell) ∙ ap (λ (t : TakenCells). has_cell t cell) is)

-- now goes on
module _ (size horizon now later leaving : ℕ) (old new : List ℕ) (some : 0 < horizon) (goes_on : now ≤ later) (is_leaving : leaving ≡ min (later - now) horizon)
    (marks : (cell : Cell) → in_box size horizon now cell ≡ true → has_mark new size horizon cell ≡ (has_mark old size horizon cell && nat_le (now + leaving) cell.step))
  where
    -- the step of the old table that has the page of this one
    abbrev twin : ℕ → ℕ
    twin step = now + (step - now) % horizon

    twin_page : (step : ℕ) → now ≤ step → twin step % horizon ≡ step % horizon
    twin_page step from = (let e : now + (step - now) ≡ step = omega arith in add-mod-mod now (step - now) horizon ∙ ap (λ s. s % horizon) e)

    -- a cell whose twin stays is its own twin
    twin_is : (step : ℕ) → now ≤ step → step < later + horizon → now + leaving ≤ twin step → twin step ≡ step
    twin_is step from below stays = elim (cases_lt (step - now) horizon) [
      | inl near ↦ (let e : (step - now) % horizon ≡ step - now = mod-eq_of_lt near in omega arith)
      | inr far ↦ absurd (
          let rest : ℕ = step - now - horizon in
          let split : step - now ≡ horizon + (step - now - horizon) = omega arith in
          let e : (step - now) % horizon ≡ (step - now - horizon) % horizon = ap (λ s. s % horizon) split ∙ add-mod_left horizon (step - now - horizon) in
          let b : (step - now) % horizon < horizon = mod_below (step - now) horizon some in
          let small : step - now - horizon < horizon = omega arith in
          let f : (step - now - horizon) % horizon ≡ step - now - horizon = mod-eq_of_lt small in
          omega arith)
    ]

    stays_marked : (cell : Cell) → is_marked new size horizon later cell ≡ true → (is_marked old size horizon now cell && nat_le later cell.step) ≡ true
    stays_marked cell is =
        let parts = and_parts (in_box size horizon later cell) (has_mark new size horizon cell) is in
        let box : InBox size horizon later cell = box_parts size horizon later cell parts.0 in
        let from : now ≤ cell.step = omega (arith, box.from) in
        let m : (cell.step - now) % horizon < horizon = mod_below (cell.step - now) horizon some in
        let inside : in_box size horizon now (cell_at (twin cell.step) cell.row cell.col) ≡ true
        = box_from size horizon now (cell_at (twin cell.step) cell.row cell.col) (record { from = omega arith; below = omega arith; row = box.row; column = box.column }) in
        let same : has_mark new size horizon (cell_at (twin cell.step) cell.row cell.col) ≡ has_mark new size horizon cell
        = ap (λ p. has_bit (slice_index new (p * size + cell.row)) cell.col) (twin_page cell.step from) in
        let both = and_parts (has_mark old size horizon (cell_at (twin cell.step) cell.row cell.col)) (nat_le (now + leaving) (twin cell.step)) (sym (marks (cell_at (twin cell.step) cell.row cell.col) inside) ∙ same ∙ parts.1) in
        let e : twin cell.step ≡ cell.step = twin_is cell.step from box.below (leb-true (now + leaving) (twin cell.step) both.1) in
        and_from (is_marked old size horizon now cell) (nat_le later cell.step)
        (and_from (in_box size horizon now cell) (has_mark old size horizon cell)
        (subst (λ (s : ℕ). in_box size horizon now (cell_at s cell.row cell.col) ≡ true) e inside)
        (subst (λ (s : ℕ). has_mark old size horizon (cell_at s cell.row cell.col) ≡ true) e both.0))
        (le-leb later cell.step box.from)

    was_marked : (cell : Cell) → (is_marked old size horizon now cell && nat_le later cell.step) ≡ true → is_marked new size horizon later cell ≡ true
    was_marked cell is =
        let parts = and_parts (is_marked old size horizon now cell) (nat_le later cell.step) is in
        let from : later ≤ cell.step = leb-true later cell.step parts.1 in
        let held = and_parts (in_box size horizon now cell) (has_mark old size horizon cell) parts.0 in
        let box : InBox size horizon now cell = box_parts size horizon now cell held.0 in
        and_from (in_box size horizon later cell) (has_mark new size horizon cell)
        (box_from size horizon later cell (record { from = from; below = omega (arith, box.below); row = box.row; column = box.column }))
        (marks cell held.0 ∙ and_from (has_mark old size horizon cell) (nat_le (now + leaving) cell.step) held.1 (le-leb (now + leaving) cell.step (omega arith)))

    advanced_marks : (cell : Cell) → is_marked new size horizon later cell ≡ (is_marked old size horizon now cell && nat_le later cell.step)
    advanced_marks cell = same_tests (is_marked new size horizon later cell) (is_marked old size horizon now cell && nat_le later cell.step) (stays_marked cell) (was_marked cell)

    -- the cells below now leave
    pub advanced : (size' horizon' : ℕ) (table : TakenCells) → view_of old size horizon now ≡ table → size' ≡ size → horizon' ≡ horizon
        → (cell : Cell) → has_cell (view_of new size' horizon' later) cell ≡ (has_cell table cell && nat_le later cell.step)
    advanced size' horizon' table is same_size same_horizon cell =
        (λ i. has_cell (view_of new (same_size i) (same_horizon i) later) cell)
        ∙ has_cell-view_of new size horizon later cell
        ∙ advanced_marks cell
        ∙ ap (λ b. b && nat_le later cell.step) (sym (has_cell-view_of old size horizon now cell) ∙ ap (λ (t : TakenCells). has_cell t cell) is)

no_mark : (n size horizon : ℕ) (cell : Cell) → has_mark (replicate n 0) size horizon cell ≡ false
no_mark n size horizon cell = ap (λ w. has_bit w cell.col) (all_zero n (place_of size horizon cell.step cell.row)) ∙ no_bit cell.col
  where
    all_zero : (n k : ℕ) → slice_index (replicate n 0) k ≡ 0
    all_zero n k = elim (cases_lt k n) [
      | inl lt ↦ get_or-replicate {A = ℕ} n k 0 0 lt
      | inr ge ↦ get_or_past (replicate n 0) k 0 (let l = length-replicate {A = ℕ} n 0 in omega (arith, length-replicate {A = ℕ} n 0))
    ]

-- no cell is taken where no word has a bit
pub fresh : (n size horizon : ℕ) (words : List ℕ) → words ≡ replicate n 0 → marked_cells words size horizon 0 ≡ set.empty
fresh n size horizon words is = set.same_set cell_cmp_total (λ x y tie. cells_tie x y ((Equal-is (cell_cmp x y)).1 tie)) (marked_cells words size horizon 0) set.empty
    (λ q. contains-marked_cells words size horizon 0 q
    ∙ and_right (in_box size horizon 0 q) (has_mark words size horizon q) (ap (λ ws. has_mark ws size horizon q) is ∙ no_mark n size horizon q)
    ∙ sym (set.contains-empty cell_cmp q))
