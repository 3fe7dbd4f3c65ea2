-- The marks of cells in a ring of pages, after a write.
use Rattle.std.proofs.Common.{◌≡◌, ◌≢◌, ℕ, zero, suc, ◌+◌, ◌-◌, ◌*◌, ◌/◌, ◌%◌, ◌^◌, ◌<◌, ◌≤◌, Bool, true, false, not, ◌&&◌, ◌||◌, List, length, get_or, set, take, refl, sym, ap, ◌∙◌, inl, inr, arith, w64}
use Rattle.std.specs.Prelude.{◌==◌, bit_or, bit_and, nat_le, nat_lt}
use Rattle.std.specs.Int.{bit_at, bit_not}
use Rattle.std.proofs.Math.Nat.{pow-suc, mul-le-mul_right}
use Rattle.std.proofs.lemmas.Bool.{and_parts, and_from, cases_eq, cases_order, leb-true, ltb-true, eqb-true, eq-eqb, false_from_ne_true}
use Rattle.std.proofs.lemmas.Nat.{leading_top, le-div, div_below, pow_pos, same_from_place, div-add-mod'}
use Rattle.std.proofs.lemmas.Nat.Bits.{bit_at_not, bit_at-lt}
use Rattle.std.proofs.lemmas.List.{get_or-set_same, get_or-set_other}
use Rattle.aim_sheets.specs.declared.spans.Span.{Span}
use Rattle.aim_geometry.specs.Cells.{Cell, cell_at}
use Rattle.aim_geometry.specs.Rects.{has_bit}
use Rattle.aim_sheets.specs.Spans.{is_at, in_span, in_spans, AreMarked}
use Rattle.aim_geometry.proofs.Bits.{has_bit_or, has_bit_and}
use Rattle.aim_tiles.specs.Cells.{in_box, in_range}
use Rattle.aim_tiles.specs.Pages.{place_of, has_mark}
use Rattle.aim_tiles.specs.Sheets.{AreTiles, AreAhead}
use Rattle.std.proofs.lemmas.List.Folds.{list_any_at, list_any_more}
use Rattle.aim_tiles.proofs.Sets.{InBox, box_parts}

pub below_power : (n : ℕ) → n < 2 ^ n
below_power zero = omega arith
below_power (suc n) = omega (arith, below_power n, pow-suc 2 n)

pub one_bit : (a j : ℕ) → 2 ^ j ≤ a → a < 2 ^ suc j → has_bit a j ≡ true
one_bit a j low high =
    let one : 1 ≤ a / 2 ^ j = le-div 1 a (2 ^ j) (pow_pos j) (omega (arith, low)) in
    let two : a / 2 ^ j < 2 = div_below a (2 ^ j) 2 (pow_pos j) (omega (arith, high, pow-suc 2 j)) in
    let e : a / 2 ^ j ≡ 1 = omega (arith, one, two) in
    eq-eqb (a / 2 ^ j % 2) 1 (ap (λ x. x % 2) e)

-- a mask that is not 0 has a column
pub some_column : (mask : ℕ) → mask ≢ 0 → (c : ℕ) × (has_bit mask c ≡ true)
some_column mask some =
    let top = leading_top mask mask (omega (arith, some)) (below_power mask) in
    (top.0, one_bit mask top.0 top.2 top.3)

-- two steps of one page, less than the horizon apart, are one
pub one_step : (h now a b : ℕ) → 0 < h → a % h ≡ b % h → now ≤ a → a < now + h → now ≤ b → b < now + h → a ≡ b
one_step h now a b some same fa ba fb bb =
    let da : a / h * h + a % h ≡ a = div-add-mod' a h in
    let db : b / h * h + b % h ≡ b = div-add-mod' b h in
    elim (cases_order (a / h) (b / h)) [
      | inl e ↦ (let p : a / h * h ≡ b / h * h = ap (λ x. x * h) e in omega (arith, da, db, p, same))
      | inr (inl lt) ↦ (let p : suc (a / h) * h ≤ b / h * h = mul-le-mul_right h lt in absurd (omega (arith, da, db, p, same)))
      | inr (inr lt) ↦ (let p : suc (b / h) * h ≤ a / h * h = mul-le-mul_right h lt in absurd (omega (arith, da, db, p, same)))
    ]

or-false : (a : Bool) → (a || false) ≡ a
or-false true = refl
or-false false = refl

and-true : (a : Bool) → (a && true) ≡ a
and-true true = refl
and-true false = refl

module _ (words : List ℕ) (size horizon now : ℕ) (ahead : 0 < horizon) (span : Span) (row : span.row < size) (range : in_range now horizon span.step ≡ true) where
  -- a cell of the table at the span's place is of the span's step and row
  same_place : (cell : Cell) → in_box size horizon now cell ≡ true → place_of size horizon cell.step cell.row ≡ place_of size horizon span.step span.row → is_at span cell.step cell.row ≡ true
  same_place cell box same =
      let b : InBox size horizon now cell = box_parts size horizon now cell box in
      let e = same_from_place (cell.step % horizon) cell.row (span.step % horizon) span.row size b.row row same in
      let r = and_parts (nat_le now span.step) (nat_lt span.step (now + horizon)) range in
      let s : cell.step ≡ span.step = one_step horizon now cell.step span.step ahead e.0 b.from b.below (leb-true now span.step r.0) (ltb-true span.step (now + horizon) r.1) in
      and_from (span.step == cell.step) (span.row == cell.row) (eq-eqb span.step cell.step (sym s)) (eq-eqb span.row cell.row (sym e.1))

  other_place : (cell : Cell) → place_of size horizon cell.step cell.row ≢ place_of size horizon span.step span.row → is_at span cell.step cell.row ≡ false
  other_place cell other = false_from_ne_true (is_at span cell.step cell.row) (λ is.
      (let p = and_parts (span.step == cell.step) (span.row == cell.row) is in
      let s : span.step ≡ cell.step = eqb-true span.step cell.step p.0 in
      let r : span.row ≡ cell.row = eqb-true span.row cell.row p.1 in
      other (λ i. place_of size horizon (sym s i) (sym r i))))

  module _ (at : ℕ) (place : at ≡ place_of size horizon span.step span.row) (within : at < length words) where
    -- after a word is written, the cells of the span have its bits, and the others have what they had
    written : (word : ℕ) (cell : Cell) (there : Bool) → in_box size horizon now cell ≡ true
        → (is_at span cell.step cell.row ≡ true → has_bit word cell.col ≡ there)
        → (is_at span cell.step cell.row ≡ false → has_mark words size horizon cell ≡ there)
        → has_mark (set words at word) size horizon cell ≡ there
    written word cell there box here elsewhere = elim (cases_eq (place_of size horizon cell.step cell.row) at) [
      | inl e ↦ ap (λ k. has_bit (get_or (set words at word) k 0) cell.col) e ∙ ap (λ w. has_bit w cell.col) (get_or-set_same words at word 0 within) ∙ here (same_place cell box (e ∙ place))
      | inr n ↦ ap (λ w. has_bit w cell.col) (get_or-set_other words at (place_of size horizon cell.step cell.row) word 0 n) ∙ elsewhere (other_place cell (λ e. n (e ∙ sym place)))
    ]

    word_is : (cell : Cell) → is_at span cell.step cell.row ≡ true → has_bit (get_or words at 0) cell.col ≡ has_mark words size horizon cell
    word_is cell is =
        let p = and_parts (span.step == cell.step) (span.row == cell.row) is in
        let s : span.step ≡ cell.step = eqb-true span.step cell.step p.0 in
        let r : span.row ≡ cell.row = eqb-true span.row cell.row p.1 in
        ap (λ k. has_bit (get_or words k 0) cell.col) (place ∙ (λ i. place_of size horizon (s i) (r i)))

    pub has_mark-mark : (cell : Cell) → in_box size horizon now cell ≡ true → has_mark (set words at (bit_or (get_or words at 0) span.mask)) size horizon cell ≡ (has_mark words size horizon cell || in_span span cell)
    has_mark-mark cell box = written (bit_or (get_or words at 0) span.mask) cell (has_mark words size horizon cell || in_span span cell) box
        (λ is. has_bit_or (get_or words at 0) span.mask cell.col ∙ rw (word_is cell is, is) refl)
        (λ no. rw no (sym (or-false (has_mark words size horizon cell))))

    pub has_mark-unmark : (cell : Cell) → in_box size horizon now cell ≡ true → size ≤ 64 → span.mask < 2 ^ 64 → has_mark (set words at (bit_and (get_or words at 0) (bit_not w64 span.mask))) size horizon cell ≡ (has_mark words size horizon cell && not (in_span span cell))
    has_mark-unmark cell box few fits =
        let b : InBox size horizon now cell = box_parts size horizon now cell box in
        let inverted : has_bit (bit_not w64 span.mask) cell.col ≡ not (has_bit span.mask cell.col) = rw (bit_at_not w64 span.mask cell.col fits (omega (arith, b.column, few))) (turned (bit_at span.mask cell.col) (bit_at-lt span.mask cell.col)) in
        written (bit_and (get_or words at 0) (bit_not w64 span.mask)) cell (has_mark words size horizon cell && not (in_span span cell)) box
        (λ is. has_bit_and (get_or words at 0) (bit_not w64 span.mask) cell.col ∙ rw (word_is cell is, is, inverted) refl)
        (λ no. rw no (sym (and-true (has_mark words size horizon cell))))
      where
        turned : (a : ℕ) → a < 2 → (1 - a == 1) ≡ not (a == 1)
        turned zero _ = refl
        turned (suc zero) _ = refl
        turned (suc (suc a)) h = absurd (omega arith)

-- the marks after a span's bits are taken from the word at its place, where the page's place is given by an equation
pub unmarked_one : (words new : List ℕ) (size horizon now page : ℕ) (span : Span) → 0 < horizon → span.row < size → in_range now horizon span.step ≡ true → page ≡ span.step % horizon * size → page + size ≤ length words → size ≤ 64 → span.mask < 2 ^ 64
    → new ≡ set words (page + span.row) (bit_and (get_or words (page + span.row) 0) (bit_not w64 span.mask))
    → (cell : Cell) → in_box size horizon now cell ≡ true → has_mark new size horizon cell ≡ (has_mark words size horizon cell && not (in_span span cell))
unmarked_one words new size horizon now page span ahead row range place within few fits is cell box =
    ap (λ ws. has_mark ws size horizon cell) is
    ∙ has_mark-unmark words size horizon now ahead span row range (page + span.row) (ap (λ x. x + span.row) place) (omega (arith, within, row)) cell box few fits

-- a span's cells are told apart by what the spans have
module _ (spans : List Span) (k : ℕ) (d : Span) (lt : k < length spans) (marked : AreMarked spans) where
  some_cell : (c : ℕ) × (in_spans spans (cell_at (get_or spans k d).step (get_or spans k d).row c) ≡ true)
  some_cell =
      let column = some_column (get_or spans k d).mask (marked k d lt) in (
        column.0,
        list_any_at (λ s. in_span s (cell_at (get_or spans k d).step (get_or spans k d).row column.0)) spans k d lt
            (and_from (is_at (get_or spans k d) (get_or spans k d).step (get_or spans k d).row) (has_bit (get_or spans k d).mask column.0)
            (and_from ((get_or spans k d).step == (get_or spans k d).step) ((get_or spans k d).row == (get_or spans k d).row) (eq-eqb (get_or spans k d).step (get_or spans k d).step refl) (eq-eqb (get_or spans k d).row (get_or spans k d).row refl)) column.1),
      )

  pub row_of_span : (size : ℕ) → AreTiles size spans → (get_or spans k d).row < size
  row_of_span size tiles = (tiles (cell_at (get_or spans k d).step (get_or spans k d).row some_cell.0) some_cell.1).0

  pub step_of_span : (now horizon : ℕ) → AreAhead now horizon spans → in_range now horizon (get_or spans k d).step ≡ true
  step_of_span now horizon ahead = ahead (cell_at (get_or spans k d).step (get_or spans k d).row some_cell.0) some_cell.1

or_within : (a b c : Bool) → ((a || b) || c) ≡ (a || (b || c))
or_within true b c = refl
or_within false b c = refl

and_not : (a b c : Bool) → ((a && not b) && not c) ≡ (a && not (b || c))
and_not false b c = refl
and_not true true c = refl
and_not true false c = refl

module _ (size horizon now : ℕ) (old : List ℕ) (spans : List Span) (k : ℕ) (d : Span) (lt : k < length spans) (tiles : AreTiles size spans) (marked : AreMarked spans) where
  -- one span more is marked
  pub marked_more : 0 < horizon → AreAhead now horizon spans → (words new : List ℕ) (at : ℕ) → at ≡ place_of size horizon (get_or spans k d).step (get_or spans k d).row → at < length words
      → new ≡ set words at (bit_or (get_or words at 0) (get_or spans k d).mask)
      → ((cell : Cell) → in_box size horizon now cell ≡ true → has_mark words size horizon cell ≡ (has_mark old size horizon cell || in_spans (take k spans) cell))
      → (cell : Cell) → in_box size horizon now cell ≡ true → has_mark new size horizon cell ≡ (has_mark old size horizon cell || in_spans (take (k + 1) spans) cell)
  marked_more some ahead words new at place within is before cell box =
      ap (λ ws. has_mark ws size horizon cell) is
      ∙ has_mark-mark words size horizon now some (get_or spans k d) (row_of_span spans k d lt marked size tiles) (step_of_span spans k d lt marked now horizon ahead) at place within cell box
      ∙ ap (λ b. b || in_span (get_or spans k d) cell) (before cell box)
      ∙ or_within (has_mark old size horizon cell) (in_spans (take k spans) cell) (in_span (get_or spans k d) cell)
      ∙ ap (λ b. has_mark old size horizon cell || b) (sym (list_any_more (λ s. in_span s cell) spans k d lt))

  -- one span more is unmarked
  pub unmarked_more : (words new : List ℕ)
      → ((cell : Cell) → in_box size horizon now cell ≡ true → has_mark new size horizon cell ≡ (has_mark words size horizon cell && not (in_span (get_or spans k d) cell)))
      → ((cell : Cell) → in_box size horizon now cell ≡ true → has_mark words size horizon cell ≡ (has_mark old size horizon cell && not (in_spans (take k spans) cell)))
      → (cell : Cell) → in_box size horizon now cell ≡ true → has_mark new size horizon cell ≡ (has_mark old size horizon cell && not (in_spans (take (k + 1) spans) cell))
  unmarked_more words new now_is before cell box =
      now_is cell box
      ∙ ap (λ b. b && not (in_span (get_or spans k d) cell)) (before cell box)
      ∙ and_not (has_mark old size horizon cell) (in_spans (take k spans) cell) (in_span (get_or spans k d) cell)
      ∙ ap (λ b. has_mark old size horizon cell && not b) (sym (list_any_more (λ s. in_span s cell) spans k d lt))
