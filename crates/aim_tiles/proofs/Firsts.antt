-- From the first hit of a run to the first taken cell.
use Rattle.std.proofs.Common.{◌≡◌, ◌≢◌, ℕ, ◌+◌, ◌-◌, ◌<◌, ◌≤◌, Bool, true, false, not, ◌&&◌, List, length, get_or, take, drop, Option, Some, None, refl, sym, ap, subst, ◌∙◌, inl, inr, arith}
use Rattle.std.specs.Prelude.{IfSome, IfNone, is_some}
use Rattle.std.specs.declared.cmp.Ordering.TheVariants.{Less, Equal}
use Rattle.std.specs.Ordering.{is_le, nat_cmp}
use Rattle.std.proofs.lemmas.Bool.{and_parts, and_from, both_ways, false_from_ne_true, cases_lt, cases_order, cases_eq, eq-eqb, lt-ltb, le-ltb}
use Rattle.std.proofs.lemmas.List.{get_or_default, get_or-drop, get_or-take, length-take, length-drop}
use Rattle.std.proofs.lemmas.List.Folds.{list_any_at, Any-from_list_any}
use Rattle.aim_sheets.specs.declared.spans.Span.{Span}
use Rattle.aim_geometry.specs.Cells.{Cell, cell_at}
use Rattle.aim_geometry.specs.Rects.{has_bit}
use Rattle.aim_sheets.specs.Spans.{is_at, in_span, in_spans, AreRising, AreMarked}
use Rattle.aim_sheets.proofs.Order.{Precedes, precedes_parts, is_at_parts}
use Rattle.aim_tiles.specs.Cells.{TakenCells, cell_cmp, has_cell}
use Rattle.aim_tiles.specs.Pages.{is_marked}
use Rattle.aim_tiles.specs.Searches.{is_hit, is_taken, IsClear, IsFirst, IsFirstHit, IsRun}
use Rattle.aim_tiles.specs.Sheets.{AreTiles}
use Rattle.aim_tiles.proofs.Writes.{row_of_span}
use Rattle.aim_tiles.proofs.Sets.{contains-marked_cells}
use Rattle.aim_tiles.proofs.Views.{view_of}

pub some_then : {X : Type 0} (o : Option X) (P Q : X → Type 0) → ((x : X) → P x → Q x) → IfSome o P → IfSome o Q
some_then None P Q step is = tt
some_then (Some x) P Q step is = step x is

pub none_then : {X : Type 0} (o : Option X) (P : Type 0) → is_some o ≡ false → IfNone o P → P
none_then None P _ is = is
none_then (Some x) P some is = absurd (cc)

pub not_none : {X : Type 0} (o : Option X) (P : Type 0) → true ≡ is_some o → IfNone o P
not_none None P some = absurd (cc)
not_none (Some x) P some = tt

-- the spans from place at on, as many as count
module _ (spans : List Span) (at : ℕ) (le : at ≤ length spans) where
  abbrev pub rest : List Span
  rest = take (length spans - at) (drop at spans)

  pub length-rest : length rest ≡ length spans - at
  length-rest = omega (arith, length-take (length spans - at) (drop at spans), length-drop at spans)

  pub rest_at : (k : ℕ) (d : Span) → k < length spans - at → get_or rest k d ≡ get_or spans (at + k) d
  rest_at k d lt = get_or-take (length spans - at) (drop at spans) k d lt ∙ get_or-drop at spans k d

  pub rest_rows : (size : ℕ) → size ≤ 64 → AreTiles size spans → AreMarked spans → (k : ℕ) (d : Span) → k < length rest → (get_or rest k d).row < 64
  rest_rows size few tiles marked k d lt =
      let in_rest : k < length spans - at = omega (arith, length-rest) in
      let row : (get_or spans (at + k) d).row < size = row_of_span spans (at + k) d (omega arith) marked size tiles in
      omega (arith, row, ap (λ (s : Span). s.row) (rest_at k d in_rest))

  module _ (count : ℕ) (within : count ≤ length rest) where
    pub length-run : length (take count rest) ≡ count
    length-run = omega (arith, length-take count rest)

    pub run_at : (k : ℕ) (d : Span) → k < count → get_or (take count rest) k d ≡ get_or spans (at + k) d
    run_at k d lt = get_or-take count rest k d lt ∙ rest_at k d (omega (arith, length-rest))

    pub run_is : (masks : List ℕ) → 0 < count → IsRun rest masks count → IsRun (take count rest) (take count masks) (length (take count rest))
    run_is masks some is = record {
      step = λ k d lt. (let l : k < count = omega (arith, length-run) in
          ap (λ (s : Span). s.step) (get_or-take count rest k d l) ∙ is.step k d l ∙ ap (λ (s : Span). s.step) (sym (get_or-take count rest 0 d some)));
      row = λ k d lt. (let l : k < count = omega (arith, length-run) in
          ap (λ (s : Span). s.row) (get_or-take count rest k d l) ∙ is.row k d l ∙ ap (λ (s : Span). s.row + k) (sym (get_or-take count rest 0 d some)));
      mask = λ k d lt. (let l : k < count = omega (arith, length-run) in
          get_or-take count masks k 0 l ∙ is.mask k d l ∙ ap (λ (s : Span). s.mask) (sym (get_or-take count rest k d l)));
    }

    -- a cell of the run is one of the spans
    pub in_run : (cell : Cell) → in_spans (take count rest) cell ≡ true → in_spans spans cell ≡ true
    in_run cell is =
        let found = Any-from_list_any (λ s. in_span s cell) (take count rest) is in
        let lt : found.0 < count = omega (arith, found.2, length-run) in
        let there : get_or spans (at + found.0) found.1 ≡ found.1 = sym (run_at found.0 found.1 lt) ∙ found.3 in
        list_any_at (λ s. in_span s cell) spans (at + found.0) found.1 (omega (arith, length-rest)) (ap (λ s. in_span s cell) there ∙ found.4)

    pub run_tiles : (size : ℕ) → AreTiles size spans → AreTiles size (take count rest)
    run_tiles size tiles cell is = tiles cell (in_run cell is)

    pub run_marked : AreMarked spans → (k : ℕ) (d : Span) → k < length (take count rest) → (get_or (take count rest) k d).mask ≢ 0
    run_marked marked k d lt is =
        let l : k < count = omega (arith, length-run) in
        marked (at + k) d (omega (arith, length-rest)) (ap (λ (s : Span). s.mask) (sym (run_at k d l)) ∙ is)

    pub run_masks : (masks : List ℕ) → length masks ≡ 64 → count ≤ 64 → length (take count masks) ≡ length (take count rest)
    run_masks masks len few = omega (arith, length-run, length-take count masks)

    pub run_within : at + count ≤ length spans
    run_within = omega (arith, length-rest)

    pub run_cost : (now before start : ℕ) → now ≤ before + length (take count rest) → before ≤ start + at → now ≤ start + (at + count)
    run_cost now before start p q = omega (arith, length-run)

    module _ (test : Span → Cell → Bool) (clear : (k : ℕ) (d : Span) → k < at → IsClear test (get_or spans k d)) where
      -- the first hit of the run is that of the spans
      pub hit_of_run : (cell : Cell) → IsFirstHit test (take count rest) cell → IsFirstHit test spans cell
      hit_of_run cell is =
          let lt : is.place < count = omega (arith, is.within, length-run) in
          record {
            place = at + is.place;
            within = omega (arith, length-rest);
            hit = λ d. subst (λ (s : Span). test s cell ≡ true) (run_at is.place d lt) (is.hit d);
            before = λ k d below. elim (cases_lt k at) [
              | inl earlier ↦ clear k d earlier
              | inr from ↦ (let e : at + (k - at) ≡ k = omega arith in
                  subst (λ (s : Span). IsClear test s) (run_at (k - at) d (omega arith) ∙ ap (λ m. get_or spans m d) e) (is.before (k - at) d (omega arith)))
            ];
            lowest = λ d column below. subst (λ (s : Span). test s (cell_at cell.step cell.row column) ≡ false) (run_at is.place d lt) (is.lowest d column below);
          }

      pub clear_of_run : ((k : ℕ) (d : Span) → k < length (take count rest) → IsClear test (get_or (take count rest) k d)) → (k : ℕ) (d : Span) → k < at + count → IsClear test (get_or spans k d)
      clear_of_run is k d below = elim (cases_lt k at) [
        | inl earlier ↦ clear k d earlier
        | inr from ↦ (let e : at + (k - at) ≡ k = omega arith in
            let l : k - at < count = omega arith in
            subst (λ (s : Span). IsClear test s) (run_at (k - at) d l ∙ ap (λ m. get_or spans m d) e) (is (k - at) d (omega (arith, length-run))))
      ]

less : (a b : ℕ) → a < b → nat_cmp a b ≡ Less
less a b lt = rw (lt-ltb a b lt) refl

equal : (a b : ℕ) → a ≡ b → nat_cmp a b ≡ Equal
equal a b e = rw (le-ltb a b (omega arith), eq-eqb a b e) refl

-- one cell is not after another
earlier_step : (a b : Cell) → a.step < b.step → is_le (cell_cmp a b) ≡ true
earlier_step a b lt = rw (less a.step b.step lt) refl

lower_row : (a b : Cell) → a.step ≡ b.step → a.row < b.row → is_le (cell_cmp a b) ≡ true
lower_row a b e lt = rw (equal a.step b.step e, less a.row b.row lt) refl

no_higher_column : (a b : Cell) → a.step ≡ b.step → a.row ≡ b.row → a.col ≤ b.col → is_le (cell_cmp a b) ≡ true
no_higher_column a b e f le = elim (cases_eq a.col b.col) [
  | inl same ↦ rw (equal a.step b.step e, equal a.row b.row f, equal a.col b.col same) refl
  | inr other ↦ rw (equal a.step b.step e, equal a.row b.row f, less a.col b.col (omega arith)) refl
]

-- a test of cells, asked of the cells of spans
module _ (passes : Cell → Bool) (spans : List Span) where
  abbrev pub hits : Span → Cell → Bool
  hits span cell = in_span span cell && passes cell

  -- a hit at one of the spans is a cell of theirs that passes
  passed_of_hit : (k : ℕ) (d : Span) (cell : Cell) → k < length spans → hits (get_or spans k d) cell ≡ true → (in_spans spans cell && passes cell) ≡ true
  passed_of_hit k d cell lt hit =
      let parts = and_parts (in_span (get_or spans k d) cell) (passes cell) hit in
      and_from (in_spans spans cell) (passes cell) (list_any_at (λ s. in_span s cell) spans k d lt parts.0) parts.1

  -- and such a cell is a hit at one of them
  record HitAt (cell : Cell) : Type 0 where
    at : ℕ
    within : at < length spans
    hit : (d : Span) → hits (get_or spans at d) cell ≡ true

  hit_of_passed : (cell : Cell) → (in_spans spans cell && passes cell) ≡ true → HitAt cell
  hit_of_passed cell passed =
      let parts = and_parts (in_spans spans cell) (passes cell) passed in
      let found = Any-from_list_any (λ s. in_span s cell) spans parts.0 in
      let hit : hits found.1 cell ≡ true = and_from (in_span found.1 cell) (passes cell) found.4 parts.1 in
      record { at = found.0; within = found.2; hit = λ d. subst (λ (s : Span). hits s cell ≡ true) (sym (get_or_default spans found.0 d found.1 found.2 ∙ found.3)) hit }

  place_of_hit : (span : Span) (cell : Cell) → hits span cell ≡ true → (span.step ≡ cell.step) × (span.row ≡ cell.row)
  place_of_hit span cell hit = is_at_parts span cell.step cell.row (and_parts (is_at span cell.step cell.row) (has_bit span.mask cell.col) (and_parts (in_span span cell) (passes cell) hit).0).0

  module _ (rising : AreRising spans) (cell : Cell) (first : IsFirstHit hits spans cell) where
    e : Span
    e = record { step = 0; row = 0; mask = 0 }

    least : (other : Cell) → HitAt other → is_le (cell_cmp cell other) ≡ true
    least other hit =
        let here = place_of_hit (get_or spans first.place e) cell (first.hit e) in
        let there = place_of_hit (get_or spans hit.at e) other (hit.hit e) in
        elim (cases_order first.place hit.at) [
          | inl same ↦ (
              let s : cell.step ≡ other.step = sym here.0 ∙ ap (λ k. (get_or spans k e).step) same ∙ there.0 in
              let r : cell.row ≡ other.row = sym here.1 ∙ ap (λ k. (get_or spans k e).row) same ∙ there.1 in
              elim (cases_lt other.col cell.col) [
                | inl lower ↦ absurd (both_ways (hits (get_or spans first.place e) (cell_at cell.step cell.row other.col)) (first.lowest e other.col lower)
                    (subst (λ k. hits (get_or spans k e) (cell_at cell.step cell.row other.col) ≡ true) (sym same) ((λ i. hits (get_or spans hit.at e) (cell_at (s i) (r i) other.col)) ∙ hit.hit e)))
                | inr le ↦ no_higher_column cell other s r le
              ])
          | inr (inl before) ↦ (
              let p : Precedes (get_or spans first.place e) (get_or spans hit.at e).step (get_or spans hit.at e).row
              = precedes_parts (get_or spans first.place e) (get_or spans hit.at e).step (get_or spans hit.at e).row (rising first.place hit.at e before hit.within) in
              elim (cases_eq cell.step other.step) [
                | inl s ↦ lower_row cell other s (let l : (get_or spans first.place e).row < (get_or spans hit.at e).row = p.lower (here.0 ∙ s ∙ sym there.0) in omega (arith, l, here.1, there.1))
                | inr n ↦ earlier_step cell other (omega (arith, p.no_later, here.0, there.0, n))
              ])
          | inr (inr after) ↦ absurd (both_ways (hits (get_or spans hit.at e) other) (first.before hit.at e after other) (hit.hit e))
        ]

    -- the first hit is the first cell of the spans that passes
    pub first_of_spans : IsFirst (λ c. in_spans spans c && passes c) cell
    first_of_spans = record {
      passes = passed_of_hit first.place e cell first.within (first.hit e);
      least = λ other passed. least other (hit_of_passed other passed);
    }

  -- where no span has a hit no cell of theirs passes
  pub none_of_spans : ((k : ℕ) (d : Span) → k < length spans → IsClear hits (get_or spans k d)) → (cell : Cell) → (in_spans spans cell && passes cell) ≡ false
  none_of_spans clear cell = false_from_ne_true (in_spans spans cell && passes cell) (λ passed. (let h : HitAt cell = hit_of_passed cell passed in
      both_ways (hits (get_or spans h.at (record { step = 0; row = 0; mask = 0 })) cell) (clear h.at (record { step = 0; row = 0; mask = 0 }) h.within cell) (h.hit (record { step = 0; row = 0; mask = 0 }))))

-- the first of the cells that pass one test is that of those that pass another one, which says the same
pub first_same : (p q : Cell → Bool) (cell : Cell) → ((c : Cell) → p c ≡ q c) → IsFirst p cell → IsFirst q cell
first_same p q cell same first = record {
  passes = sym (same cell) ∙ first.passes;
  least = λ other t. first.least other (same other ∙ t);
}

-- a marked cell that is none of the own ones is taken
pub taken_same : (words : List ℕ) (size horizon now : ℕ) (spans own : List Span) (table : TakenCells) → view_of words size horizon now ≡ table → (c : Cell) →
    (in_spans spans c && (is_marked words size horizon now c && not (in_spans own c))) ≡ is_taken table spans own c
taken_same words size horizon now spans own table is c =
    ap (λ b. in_spans spans c && (b && not (in_spans own c))) (sym (sym (ap (λ (t : TakenCells). has_cell t c) is) ∙ contains-marked_cells words size horizon now c))

-- what a search gives is first, and where it gives none there is none
pub taken_found : (words : List ℕ) (size horizon now : ℕ) (spans read own : List Span) (table : TakenCells) (found : Option (ℕ × ℕ × ℕ)) → view_of words size horizon now ≡ table → read ≡ spans → AreRising read
    → IfSome found (λ r. IsFirstHit (is_hit words size horizon now own) read (cell_at r.0 r.1 r.2)) → IfSome found (λ r. IsFirst (is_taken table spans own) (cell_at r.0 r.1 r.2))
taken_found words size horizon now spans read own table found is same rising first =
    some_then found (λ r. IsFirstHit (is_hit words size horizon now own) read (cell_at r.0 r.1 r.2)) (λ r. IsFirst (is_taken table spans own) (cell_at r.0 r.1 r.2))
    (λ r hit. subst (λ (ss : List Span). IsFirst (is_taken table ss own) (cell_at r.0 r.1 r.2)) same
    (first_same (λ c. in_spans read c && (is_marked words size horizon now c && not (in_spans own c))) (is_taken table read own) (cell_at r.0 r.1 r.2) (taken_same words size horizon now read own table is)
    (first_of_spans (λ c. is_marked words size horizon now c && not (in_spans own c)) read rising (cell_at r.0 r.1 r.2) hit))) first

pub taken_none : (words : List ℕ) (size horizon now : ℕ) (spans read own : List Span) (table : TakenCells) (found : Option (ℕ × ℕ × ℕ)) → view_of words size horizon now ≡ table → read ≡ spans
    → IfNone found ((k : ℕ) (d : Span) → k < length read → IsClear (is_hit words size horizon now own) (get_or read k d)) → IfNone found ((cell : Cell) → is_taken table spans own cell ≡ false)
taken_none words size horizon now spans read own table None is same clear = λ cell. subst (λ (ss : List Span). is_taken table ss own cell ≡ false) same
    (sym (taken_same words size horizon now read own table is cell) ∙ none_of_spans (λ c. is_marked words size horizon now c && not (in_spans own c)) read clear cell)
taken_none words size horizon now spans read own table (Some r) is same clear = tt
