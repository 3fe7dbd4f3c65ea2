-- Where a span's mask and a word of a page share a bit.
use Rattle.std.proofs.Common.{◌≡◌, ◌≢◌, ℕ, zero, suc, ◌+◌, ◌-◌, ◌*◌, ◌%◌, ◌^◌, ◌<◌, ◌≤◌, Bool, true, false, not, ◌&&◌, List, length, get_or, drop, refl, sym, ap, subst, ◌∙◌, inl, inr, arith, w64}
use Rattle.std.specs.Prelude.{◌==◌, bit_and, nat_lt, slice_range}
use Rattle.std.specs.Int.{bit_at, bit_not, trailing_zeros}
use Rattle.std.proofs.lemmas.Bool.{cases_lt, cases_eq, and_parts, and_from, and_left, both_ways, false_from_ne_true, eqb-true, eq-eqb, lt-ltb}
use Rattle.std.proofs.lemmas.Nat.{and_le_l}
use Rattle.std.proofs.lemmas.Nat.Bits.{bit_at_not, bit_at-lt, bit_at-trailing_zeros}
use Rattle.std.proofs.lemmas.List.{get_or_default, get_or-drop, get_or-take}
use Rattle.std.proofs.lemmas.List.Folds.{list_any_at}
use Rattle.aim_sheets.specs.declared.spans.Span.{Span}
use Rattle.aim_geometry.specs.Cells.{Cell, cell_at}
use Rattle.aim_geometry.specs.Rects.{has_bit}
use Rattle.aim_sheets.specs.Spans.{is_at, in_span, in_spans, AreMarked}
use Rattle.aim_geometry.proofs.Bits.{has_bit_and}
use Rattle.aim_sheets.proofs.Masks.{no_bit}
use Rattle.aim_tiles.specs.Cells.{in_box, in_range}
use Rattle.aim_tiles.specs.Pages.{place_of, has_mark, is_marked}
use Rattle.aim_tiles.specs.Searches.{is_hit, IsClear, IsFirstHit, IsRun}
use Rattle.aim_tiles.specs.Sheets.{AreTiles}
use Rattle.aim_tiles.proofs.Sets.{InBox, box_parts}
use Rattle.aim_tiles.proofs.Writes.{row_of_span}

turned : (a : ℕ) → a < 2 → (1 - a == 1) ≡ not (a == 1)
turned zero _ = refl
turned (suc zero) _ = refl
turned (suc (suc a)) h = absurd (omega arith)

-- the bits that are left when the own ones are taken away
hit_bit : (mask word own c : ℕ) → own < 2 ^ 64 → c < 64 → has_bit (bit_and (bit_and mask word) (bit_not w64 own)) c ≡ ((has_bit mask c && has_bit word c) && not (has_bit own c))
hit_bit mask word own c fits lt =
    has_bit_and (bit_and mask word) (bit_not w64 own) c
    ∙ rw (has_bit_and mask word c, bit_at_not w64 own c fits lt, turned (bit_at own c) (bit_at-lt own c)) refl

module _ (words : List ℕ) (size horizon now : ℕ) (few : size ≤ 64) (own : List Span) (span : Span) (word : ℕ)
    (is_word : (c : ℕ) → has_mark words size horizon (cell_at span.step span.row c) ≡ has_bit word c) where
  -- what a hit in this column says
  abbrev meets : ℕ → Bool
  meets c = (has_bit span.mask c && has_bit word c) && not (in_spans own (cell_at span.step span.row c))

  hit_meets : (cell : Cell) → is_hit words size horizon now own span cell ≡ true → (meets cell.col ≡ true) × (cell.col < 64)
  hit_meets cell is =
      let parts = and_parts (in_span span cell) (is_marked words size horizon now cell && not (in_spans own cell)) is in
      let here = and_parts (is_at span cell.step cell.row) (has_bit span.mask cell.col) parts.0 in
      let at = and_parts (span.step == cell.step) (span.row == cell.row) here.0 in
      let s : span.step ≡ cell.step = eqb-true span.step cell.step at.0 in
      let r : span.row ≡ cell.row = eqb-true span.row cell.row at.1 in
      let rest = and_parts (is_marked words size horizon now cell) (not (in_spans own cell)) parts.1 in
      let held = and_parts (in_box size horizon now cell) (has_mark words size horizon cell) rest.0 in
      let box : InBox size horizon now cell = box_parts size horizon now cell held.0 in
      let mark : has_bit word cell.col ≡ true = sym (is_word cell.col) ∙ (λ i. has_mark words size horizon (cell_at (s i) (r i) cell.col)) ∙ held.1 in
      let other : not (in_spans own (cell_at span.step span.row cell.col)) ≡ true = (λ i. not (in_spans own (cell_at (s i) (r i) cell.col))) ∙ rest.1 in (
        and_from (has_bit span.mask cell.col && has_bit word cell.col) (not (in_spans own (cell_at span.step span.row cell.col))) (and_from (has_bit span.mask cell.col) (has_bit word cell.col) here.1 mark) other,
        omega (arith, box.column, few),
      )

  pub clear_at : ((c : ℕ) → c < 64 → meets c ≡ false) → IsClear (is_hit words size horizon now own) span
  clear_at none cell = false_from_ne_true (is_hit words size horizon now own span cell) (λ is. (let h = hit_meets cell is in both_ways (meets cell.col) (none cell.col h.1) h.0))

  -- the words share no bit
  pub clear_apart : bit_and span.mask word ≡ 0 → IsClear (is_hit words size horizon now own) span
  clear_apart apart = clear_at (λ c _. and_left (has_bit span.mask c && has_bit word c) (not (in_spans own (cell_at span.step span.row c))) (sym (has_bit_and span.mask word c) ∙ ap (λ m. has_bit m c) apart ∙ no_bit c))

  module _ (own_mask : ℕ) (fits : own_mask < 2 ^ 64) (is_own : (c : ℕ) → has_bit own_mask c ≡ in_spans own (cell_at span.step span.row c)) where
    abbrev hit : ℕ
    hit = bit_and (bit_and span.mask word) (bit_not w64 own_mask)

    bit_meets : (c : ℕ) → c < 64 → has_bit hit c ≡ meets c
    bit_meets c lt = hit_bit span.mask word own_mask c fits lt ∙ ap (λ b. (has_bit span.mask c && has_bit word c) && not b) (is_own c)

    -- all that they share is own
    pub clear_own : hit ≡ 0 → IsClear (is_hit words size horizon now own) span
    clear_own none = clear_at (λ c lt. sym (bit_meets c lt) ∙ ap (λ m. has_bit m c) none ∙ no_bit c)

    -- they share more
    pub hit_lowest : hit ≢ 0 → hit < 2 ^ 64 → (trailing_zeros w64 hit < 64) × (meets (trailing_zeros w64 hit) ≡ true) × ((c : ℕ) → c < trailing_zeros w64 hit → is_hit words size horizon now own span (cell_at span.step span.row c) ≡ false)
    hit_lowest some below =
        let t = bit_at-trailing_zeros w64 hit (omega (arith, some)) below in (
          t.0,
          sym (bit_meets (trailing_zeros w64 hit) t.0) ∙ eq-eqb (bit_at hit (trailing_zeros w64 hit)) 1 t.1,
          λ c lt. false_from_ne_true (is_hit words size horizon now own span (cell_at span.step span.row c)) (λ is.
              (let h = hit_meets (cell_at span.step span.row c) is in
              let zero_bit : has_bit hit c ≡ false = ap (λ b. b == 1) (t.2 c lt) in
              both_ways (has_bit hit c) zero_bit (bit_meets c h.1 ∙ h.0))),
        )

-- a hit is within the horizon
hit_range : (words : List ℕ) (size horizon now : ℕ) (own : List Span) (span : Span) (cell : Cell)
    → is_hit words size horizon now own span cell ≡ true → in_range now horizon span.step ≡ true
hit_range words size horizon now own span cell is =
    let parts = and_parts (in_span span cell) (is_marked words size horizon now cell && not (in_spans own cell)) is in
    let here = and_parts (is_at span cell.step cell.row) (has_bit span.mask cell.col) parts.0 in
    let at = and_parts (span.step == cell.step) (span.row == cell.row) here.0 in
    let marked = and_parts (is_marked words size horizon now cell) (not (in_spans own cell)) parts.1 in
    let held = and_parts (in_box size horizon now cell) (has_mark words size horizon cell) marked.0 in
    let range = and_parts (in_range now horizon cell.step) (nat_lt cell.row size && nat_lt cell.col size) held.0 in
    ap (λ step. in_range now horizon step) (eqb-true span.step cell.step at.0) ∙ range.0

-- no cell of a run is hit whose step is not within the horizon
pub run_outside : (words : List ℕ) (size horizon now : ℕ) (own run : List Span) (masks : List ℕ) → IsRun run masks (length run)
    → (e : Span) → in_range now horizon (get_or run 0 e).step ≢ true
    → (k : ℕ) (d : Span) → k < length run → IsClear (is_hit words size horizon now own) (get_or run k d)
run_outside words size horizon now own run masks is_run e outside k d lt cell =
    let same : (get_or run k d).step ≡ (get_or run 0 e).step = is_run.step k d lt ∙ ap (λ (s : Span). s.step) (get_or_default run 0 d e (omega arith)) in
    false_from_ne_true (is_hit words size horizon now own (get_or run k d) cell)
    (λ is. outside (ap (λ step. in_range now horizon step) (sym same) ∙ hit_range words size horizon now own (get_or run k d) cell is))

-- the words of a run
module _ (words : List ℕ) (size horizon place : ℕ) (run : List Span) (masks : List ℕ) (is_run : IsRun run masks (length run)) (e : Span)
    (is_place : place ≡ place_of size horizon (get_or run 0 e).step (get_or run 0 e).row) where
  pub word_of_run : (read : List ℕ) → read ≡ slice_range words place (place + length run) → (k : ℕ) → k < length run
      → (c : ℕ) → has_mark words size horizon (cell_at (get_or run k e).step (get_or run k e).row c) ≡ has_bit (get_or read k 0) c
  word_of_run read is k lt c =
      let s : (get_or run k e).step ≡ (get_or run 0 e).step = is_run.step k e lt in
      let r : (get_or run k e).row ≡ (get_or run 0 e).row + k = is_run.row k e lt in
      let at : place_of size horizon (get_or run k e).step (get_or run k e).row ≡ place + k = (λ i. s i % horizon * size + r i) ∙ omega (arith, is_place) in
      let word : get_or read k 0 ≡ get_or words (place + k) 0 = ap (λ xs. get_or xs k 0) is ∙ range_at words place (place + length run) k (omega arith) in
      ap (λ p. has_bit (get_or words p 0) c) at ∙ sym (ap (λ w. has_bit w c) word)
    where
      range_at : (xs : List ℕ) (a b k : ℕ) → k < b - a → get_or (slice_range xs a b) k 0 ≡ get_or xs (a + k) 0
      range_at xs a b k lt = get_or-take (b - a) (drop a xs) k 0 lt ∙ get_or-drop a xs k 0

  module _ (now : ℕ) (few : size ≤ 64) (own : List Span) (read : List ℕ) (is_read : read ≡ slice_range words place (place + length run)) (k : ℕ) (lt : k < length run) where
    abbrev at_default : (P : Span → Type 0) → P (get_or run k e) → (d : Span) → P (get_or run k d)
    at_default P p d = subst P (get_or_default run k e d lt) p

    -- the mask and the word share no bit
    pub run_apart : bit_and (get_or masks k 0) (get_or read k 0) ≡ 0 → (d : Span) → IsClear (is_hit words size horizon now own) (get_or run k d)
    run_apart apart = at_default (IsClear (is_hit words size horizon now own))
        (clear_apart words size horizon now few own (get_or run k e) (get_or read k 0) (word_of_run read is_read k lt) (ap (λ m. bit_and m (get_or read k 0)) (sym (is_run.mask k e lt)) ∙ apart))

    module _ (own_mask : ℕ) (fits : own_mask < 2 ^ 64) (is_own : (c : ℕ) → has_bit own_mask c ≡ in_spans own (cell_at (get_or run k e).step (get_or run k e).row c)) where
      abbrev left_over : ℕ
      left_over = bit_and (bit_and (get_or run k e).mask (get_or read k 0)) (bit_not w64 own_mask)

      -- they share own bits alone
      pub run_own : left_over ≡ 0 → (d : Span) → IsClear (is_hit words size horizon now own) (get_or run k d)
      run_own none = at_default (IsClear (is_hit words size horizon now own))
          (clear_own words size horizon now few own (get_or run k e) (get_or read k 0) (word_of_run read is_read k lt) own_mask fits is_own none)

      -- they share another one
      pub run_hit : left_over ≢ 0 → (get_or run k e).mask < 2 ^ 64 → AreTiles size run → in_range now horizon (get_or run 0 e).step ≡ true → ((j : ℕ) (d : Span) → j < k → IsClear (is_hit words size horizon now own) (get_or run j d))
          → IsFirstHit (is_hit words size horizon now own) run (cell_at (get_or run k e).step (get_or run k e).row (trailing_zeros w64 left_over))
      run_hit some mask_fits tiles range before =
          let column : ℕ = trailing_zeros w64 left_over in
          let below : left_over < 2 ^ 64 = omega (arith, and_le_l (bit_and (get_or run k e).mask (get_or read k 0)) (bit_not w64 own_mask), and_le_l (get_or run k e).mask (get_or read k 0), mask_fits) in
          let h = hit_lowest words size horizon now few own (get_or run k e) (get_or read k 0) (word_of_run read is_read k lt) own_mask fits is_own some below in
          let parts = and_parts (has_bit (get_or run k e).mask (trailing_zeros w64 left_over) && has_bit (get_or read k 0) (trailing_zeros w64 left_over)) (not (in_spans own (cell_at (get_or run k e).step (get_or run k e).row (trailing_zeros w64 left_over)))) h.1 in
          let bits = and_parts (has_bit (get_or run k e).mask (trailing_zeros w64 left_over)) (has_bit (get_or read k 0) (trailing_zeros w64 left_over)) parts.0 in
          let inside : in_span (get_or run k e) (cell_at (get_or run k e).step (get_or run k e).row (trailing_zeros w64 left_over)) ≡ true
          = and_from (is_at (get_or run k e) (get_or run k e).step (get_or run k e).row) (has_bit (get_or run k e).mask (trailing_zeros w64 left_over))
          (and_from ((get_or run k e).step == (get_or run k e).step) ((get_or run k e).row == (get_or run k e).row) (eq-eqb (get_or run k e).step (get_or run k e).step refl) (eq-eqb (get_or run k e).row (get_or run k e).row refl)) bits.0 in
          let tile = tiles (cell_at (get_or run k e).step (get_or run k e).row (trailing_zeros w64 left_over)) (list_any_at (λ s. in_span s (cell_at (get_or run k e).step (get_or run k e).row (trailing_zeros w64 left_over))) run k e lt inside) in
          let box : in_box size horizon now (cell_at (get_or run k e).step (get_or run k e).row (trailing_zeros w64 left_over)) ≡ true
          = and_from (in_range now horizon (get_or run k e).step) (nat_lt (get_or run k e).row size && nat_lt (trailing_zeros w64 left_over) size)
          (ap (λ s. in_range now horizon s) (is_run.step k e lt) ∙ range)
          (and_from (nat_lt (get_or run k e).row size) (nat_lt (trailing_zeros w64 left_over) size) (lt-ltb (get_or run k e).row size tile.0) (lt-ltb (trailing_zeros w64 left_over) size tile.1)) in
          let mark : has_mark words size horizon (cell_at (get_or run k e).step (get_or run k e).row (trailing_zeros w64 left_over)) ≡ true = word_of_run read is_read k lt (trailing_zeros w64 left_over) ∙ bits.1 in
          let hit : is_hit words size horizon now own (get_or run k e) (cell_at (get_or run k e).step (get_or run k e).row (trailing_zeros w64 left_over)) ≡ true
          = and_from (in_span (get_or run k e) (cell_at (get_or run k e).step (get_or run k e).row (trailing_zeros w64 left_over))) _ inside
          (and_from (is_marked words size horizon now (cell_at (get_or run k e).step (get_or run k e).row (trailing_zeros w64 left_over))) (not (in_spans own (cell_at (get_or run k e).step (get_or run k e).row (trailing_zeros w64 left_over))))
          (and_from (in_box size horizon now (cell_at (get_or run k e).step (get_or run k e).row (trailing_zeros w64 left_over))) (has_mark words size horizon (cell_at (get_or run k e).step (get_or run k e).row (trailing_zeros w64 left_over))) box mark) parts.1) in
          record {
            place = k;
            within = lt;
            hit = at_default (λ (s : Span). is_hit words size horizon now own s (cell_at (get_or run k e).step (get_or run k e).row (trailing_zeros w64 left_over)) ≡ true) hit;
            before = before;
            lowest = λ d c below. at_default (λ (s : Span). is_hit words size horizon now own s (cell_at (get_or run k e).step (get_or run k e).row c) ≡ false) (h.2 c below) d;
          }

  -- places of the run are passed in which nothing is hit
  module _ (now : ℕ) (few : size ≤ 64) (own : List Span) (read : List ℕ) (is_read : read ≡ slice_range words place (place + length run)) (at : ℕ)
      (before : (j : ℕ) (d : Span) → j < at → IsClear (is_hit words size horizon now own) (get_or run j d)) where
    pub clear_to : (k m : ℕ) → k ≤ length run → m ≡ k → ((j : ℕ) → at ≤ j → j < m → bit_and (get_or masks j 0) (get_or read j 0) ≡ 0)
        → (j : ℕ) (d : Span) → j < k → IsClear (is_hit words size horizon now own) (get_or run j d)
    clear_to k m le same apart j d lt = elim (cases_lt j at) [
      | inl earlier ↦ before j d earlier
      | inr from ↦ run_apart now few own read is_read j (omega arith) (apart j from (omega arith)) d
    ]

    module _ (k m : ℕ) (within : k < m) (long : m ≡ length run) (apart : (j : ℕ) → at ≤ j → j < k → bit_and (get_or masks j 0) (get_or read j 0) ≡ 0)
        (own_mask : ℕ) (fits : own_mask < 2 ^ 64) (is_own : (c : ℕ) → has_bit own_mask c ≡ in_spans own (cell_at (get_or run k e).step (get_or run k e).row c)) where
      lt : k < length run
      lt = omega arith

      pub clear_past : bit_and (bit_and (get_or run k e).mask (get_or read k 0)) (bit_not w64 own_mask) ≡ 0 → (j : ℕ) (d : Span) → j < k + 1 → IsClear (is_hit words size horizon now own) (get_or run j d)
      clear_past none j d below = elim (cases_eq j k) [
        | inl here ↦ subst (λ m. IsClear (is_hit words size horizon now own) (get_or run m d)) (sym here) (run_own now few own read is_read k lt own_mask fits is_own none d)
        | inr other ↦ clear_to k k (omega arith) refl apart j d (omega arith)
      ]

      pub hit_from : bit_and (bit_and (get_or run k e).mask (get_or read k 0)) (bit_not w64 own_mask) ≢ 0 → get_or masks k 0 < 2 ^ 64 → AreTiles size run → in_range now horizon (get_or run 0 e).step ≡ true
          → IsFirstHit (is_hit words size horizon now own) run (cell_at (get_or run k e).step (get_or run k e).row (trailing_zeros w64 (bit_and (bit_and (get_or run k e).mask (get_or read k 0)) (bit_not w64 own_mask))))
      hit_from some mask_fits tiles range =
          run_hit now few own read is_read k lt own_mask fits is_own some (subst (λ (m : ℕ). m < 2 ^ 64) (is_run.mask k e lt) mask_fits) tiles range (clear_to k k (omega arith) refl apart)

-- the rows of a run are those of a page
pub run_fits : (run : List Span) (masks : List ℕ) (size : ℕ) (e : Span) → 0 < length run → IsRun run masks (length run) → AreMarked run → AreTiles size run → (get_or run 0 e).row + length run ≤ size
run_fits run masks size e some is_run marked tiles =
    let last : length run - 1 < length run = omega arith in
    omega (arith, row_of_span run (length run - 1) e last marked size tiles, is_run.row (length run - 1) e last)

-- what a test says of a step that isn't within the horizon
pub no_range : (b : Bool) (now horizon step : ℕ) → b ≡ in_range now horizon step → b ≡ false → in_range now horizon step ≢ true
no_range b now horizon step is off there = both_ways b off (is ∙ there)
