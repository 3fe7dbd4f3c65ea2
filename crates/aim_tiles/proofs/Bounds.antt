-- Where the cells of spans lie, by their rows, masks and steps.
use Rattle.std.proofs.Common.{◌≡◌, ℕ, suc, ◌+◌, ◌*◌, ◌/◌, ◌%◌, ◌^◌, ◌<◌, ◌≤◌, ◌↔◌, Bool, true, List, length, get_or, refl, sym, ap, subst, ◌∙◌, inl, inr, arith, All}
use Rattle.std.specs.Prelude.{◌==◌, IsTrue}
use Rattle.std.proofs.Math.Nat.{pow-le-pow_right, zero-mul}
use Rattle.std.proofs.lemmas.Bool.{and_parts, and_from, eqb-true, eq-eqb, cases_lt}
use Rattle.std.proofs.lemmas.Nat.{leading_top, pow_pos, div-add-mod', mod_below, div_below}
use Rattle.std.proofs.lemmas.Nat.Bits.{bit_at_above}
use Rattle.std.proofs.lemmas.List.{get_or_default}
use Rattle.std.proofs.lemmas.List.Folds.{list_any_at, Any-from_list_any}
use Rattle.aim_sheets.specs.declared.spans.Span.{Span}
use Rattle.aim_geometry.specs.Cells.{Cell, cell_at}
use Rattle.aim_geometry.specs.Rects.{has_bit}
use Rattle.aim_sheets.specs.Spans.{is_at, in_span, in_spans, AreMarked}
use Rattle.aim_tiles.specs.Cells.{TakenCells, in_range, has_cell, in_box}
use Rattle.aim_tiles.specs.Sheets.{AreTiles, AreAhead}
use Rattle.aim_tiles.proofs.Writes.{row_of_span, step_of_span, below_power, one_bit}
use Rattle.aim_tiles.proofs.Sets.{contains-marked_cells}
use Rattle.aim_tiles.proofs.Views.{view_of}

-- a mask whose columns are below the size
mask_fits : (mask size : ℕ) → ((c : ℕ) → has_bit mask c ≡ true → c < size) → mask < 2 ^ size
mask_fits mask size below = elim (cases_lt mask (2 ^ size)) [
  | inl lt ↦ lt
  | inr ge ↦ (
      let pos : 0 < 2 ^ size = pow_pos size in
      let top = leading_top mask mask (omega (arith, ge, pos)) (below_power mask) in
      let c : top.0 < size = below top.0 (one_bit mask top.0 top.2 top.3) in
      let p : 2 ^ suc top.0 ≤ 2 ^ size = pow-le-pow_right {n = 2} (omega arith) {i = suc top.0} {j = size} (omega (arith, c)) in
      absurd (omega (arith, p, ge, top.3)))
]

bit_below : (mask size c : ℕ) → mask < 2 ^ size → has_bit mask c ≡ true → c < size
bit_below mask size c lt bit = elim (cases_lt c size) [
  | inl below ↦ below
  | inr above ↦ (let z = bit_at_above mask size c lt above in let o = eqb-true _ 1 bit in absurd (omega (arith, z, o)))
]

-- a cell of the spans is one of one of them
module _ (spans : List Span) (cell : Cell) (is : in_spans spans cell ≡ true) where
  record At : Type 0 where
    at : ℕ
    within : at < length spans
    step : (d : Span) → (get_or spans at d).step ≡ cell.step
    row : (d : Span) → (get_or spans at d).row ≡ cell.row
    bit : (d : Span) → has_bit (get_or spans at d).mask cell.col ≡ true

  found_at : At
  found_at =
      let found = Any-from_list_any (λ s. in_span s cell) spans is in
      let parts = and_parts (is_at found.1 cell.step cell.row) (has_bit found.1.mask cell.col) found.4 in
      let place = and_parts (found.1.step == cell.step) (found.1.row == cell.row) parts.0 in
      let there : (d : Span) → get_or spans found.0 d ≡ found.1 = λ d. get_or_default spans found.0 d found.1 found.2 ∙ found.3 in
      record {
        at = found.0;
        within = found.2;
        step = λ d. ap (λ (s : Span). s.step) (there d) ∙ eqb-true found.1.step cell.step place.0;
        row = λ d. ap (λ (s : Span). s.row) (there d) ∙ eqb-true found.1.row cell.row place.1;
        bit = λ d. ap (λ (s : Span). has_bit s.mask cell.col) (there d) ∙ parts.1;
      }

module _ (spans : List Span) (marked : AreMarked spans) where
  pub tiles_both : (size : ℕ) → All (λ span. (span.row < size) × (span.mask < 2 ^ size)) spans ↔ AreTiles size spans
  tiles_both size = (to, from)
    where
      e : Span
      e = record { step = 0; row = 0; mask = 0 }

      to : All (λ span. (span.row < size) × (span.mask < 2 ^ size)) spans → AreTiles size spans
      to all cell is =
          let f : At spans cell is = found_at spans cell is in
          let b = all f.at e f.within in
          (omega (arith, b.0, f.row e), bit_below (get_or spans f.at e).mask size cell.col b.1 (f.bit e))

      from : AreTiles size spans → All (λ span. (span.row < size) × (span.mask < 2 ^ size)) spans
      from tiles k d lt = (
        row_of_span spans k d lt marked size tiles,
        mask_fits (get_or spans k d).mask size (λ c bit. (tiles (cell_at (get_or spans k d).step (get_or spans k d).row c)
            (list_any_at (λ s. in_span s (cell_at (get_or spans k d).step (get_or spans k d).row c)) spans k d lt
            (and_from (is_at (get_or spans k d) (get_or spans k d).step (get_or spans k d).row) (has_bit (get_or spans k d).mask c)
            (and_from ((get_or spans k d).step == (get_or spans k d).step) ((get_or spans k d).row == (get_or spans k d).row) (eq-eqb (get_or spans k d).step (get_or spans k d).step refl) (eq-eqb (get_or spans k d).row (get_or spans k d).row refl)) bit))).1),
      )

  pub ahead_both : (now horizon : ℕ) → All (λ span. IsTrue (in_range now horizon span.step)) spans ↔ AreAhead now horizon spans
  ahead_both now horizon = (to, λ ahead k d lt. step_of_span spans k d lt marked now horizon ahead)
    where
      e : Span
      e = record { step = 0; row = 0; mask = 0 }

      to : All (λ span. IsTrue (in_range now horizon span.step)) spans → AreAhead now horizon spans
      to all cell is =
          let f : At spans cell is = found_at spans cell is in
          subst (λ s. in_range now horizon s ≡ true) (f.step e) (all f.at e f.within)

-- a test that decides one fact decides another that says the same
pub same_fact : {b : Bool} {P Q : Type 0} → (IsTrue b ↔ P) → (P ↔ Q) → IsTrue b ↔ Q
same_fact one two = (λ t. two.0 (one.0 t), λ q. one.1 (two.1 q))

-- each cell of a table is one that it has
pub cells_in_box : (words : List ℕ) (size horizon now : ℕ) (table : TakenCells) → view_of words size horizon now ≡ table → (cell : Cell) → has_cell table cell ≡ true → in_box table.size table.horizon table.current cell ≡ true
cells_in_box words size horizon now table is cell =
    subst (λ (t : TakenCells). has_cell t cell ≡ true → in_box t.size t.horizon t.current cell ≡ true) is
    (λ held. (and_parts (in_box size horizon now cell) _ (sym (contains-marked_cells words size horizon now cell) ∙ held)).0)

pub tiles_test : (b : Bool) (words : List ℕ) (size horizon now size' : ℕ) (spans read : List Span) (table : TakenCells) → view_of words size horizon now ≡ table → size' ≡ size → read ≡ spans → AreMarked read
    → IsTrue b ↔ All (λ span. (span.row < size') × (span.mask < 2 ^ size')) read → IsTrue b ↔ AreTiles table.size spans
tiles_test b words size horizon now size' spans read table is same_size same marked test =
    subst (λ (t : TakenCells). IsTrue b ↔ AreTiles t.size spans) is
    (subst (λ (n : ℕ). IsTrue b ↔ AreTiles n spans) same_size
    (subst (λ (ss : List Span). IsTrue b ↔ AreTiles size' ss) same (same_fact test (tiles_both read marked size'))))

pub steps_test : (b : Bool) (words : List ℕ) (size horizon now horizon' : ℕ) (spans read : List Span) (table : TakenCells) → view_of words size horizon now ≡ table → horizon' ≡ horizon → read ≡ spans → AreMarked read
    → IsTrue b ↔ All (λ span. IsTrue (in_range now horizon' span.step)) read → IsTrue b ↔ AreAhead table.current table.horizon spans
steps_test b words size horizon now horizon' spans read table is same_horizon same marked test =
    subst (λ (t : TakenCells). IsTrue b ↔ AreAhead t.current t.horizon spans) is
    (subst (λ (h : ℕ). IsTrue b ↔ AreAhead now h spans) same_horizon
    (subst (λ (ss : List Span). IsTrue b ↔ AreAhead now horizon' ss) same (same_fact test (ahead_both read marked now horizon'))))

-- a mask that has nothing from this column on
pub mask_below : (mask size : ℕ) → IsTrue (mask / 2 ^ size == 0) ↔ (mask < 2 ^ size)
mask_below mask size = (
  λ none. (let z : mask / 2 ^ size ≡ 0 = eqb-true (mask / 2 ^ size) 0 none in
      let d : mask / 2 ^ size * 2 ^ size + mask % 2 ^ size ≡ mask = div-add-mod' mask (2 ^ size) in
      let p : mask / 2 ^ size * 2 ^ size ≡ 0 = ap (λ q. q * 2 ^ size) z ∙ zero-mul (2 ^ size) in
      let m : mask % 2 ^ size < 2 ^ size = mod_below mask (2 ^ size) (pow_pos size) in
      omega (arith, d, p, m)),
  λ lt. (let q : mask / 2 ^ size < 1 = div_below mask (2 ^ size) 1 (pow_pos size) (omega (arith, lt)) in eq-eqb (mask / 2 ^ size) 0 (omega (arith, q))),
)
