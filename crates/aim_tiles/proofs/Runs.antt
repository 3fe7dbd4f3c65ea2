-- The steps of the loops over spans.
use Rattle.std.proofs.Common.{◌≡◌, ℕ, ◌+◌, ◌*◌, ◌%◌, ◌<◌, ◌≤◌, Bool, true, false, not, ◌&&◌, ◌||◌, List, length, get_or, set, take, refl, sym, ap, subst, ◌∙◌, inl, inr, arith, nat_le}
use Rattle.std.specs.Prelude.{bit_or}
use Rattle.std.proofs.Math.Nat.{mul-add, zero-mul}
use Rattle.std.proofs.lemmas.Bool.{cases_eq, le-leb}
use Rattle.std.proofs.lemmas.List.{get_or-set_same, get_or-set_other, get_or_default, take_all}
use Rattle.aim_geometry.specs.Cells.{Cell}
use Rattle.aim_sheets.specs.declared.spans.Span.{Span}
use Rattle.aim_sheets.specs.Spans.{in_span, in_spans, AreMarked}
use Rattle.aim_tiles.specs.Cells.{in_box}
use Rattle.aim_tiles.specs.Pages.{place_of, has_mark}
use Rattle.aim_tiles.specs.Searches.{IsRun, IsClear}
use Rattle.aim_tiles.specs.Sheets.{AreTiles, AreAhead}
use Rattle.aim_tiles.proofs.Sets.{InBox, box_parts}
use Rattle.aim_tiles.proofs.Writes.{marked_more, unmarked_more, row_of_span}

pub at_least_0 : (n : ℕ) → 0 ≤ n
at_least_0 n = omega arith

pub no_more : (n : ℕ) → n ≤ n + 0
no_more n = omega arith

pub no_count : (n : ℕ) → n ≡ n + 0
no_count n = omega arith

pub same_most : (n : ℕ) → n ≤ n
same_most n = omega arith

pub at_most : (a b c : ℕ) → a ≤ b → b ≤ c → a ≤ c
at_most a b c p q = omega arith

pub more_some : (n : ℕ) → 0 < n + 1
more_some n = omega arith

pub next_within : (a n : ℕ) → a < n → a + 1 ≤ n
next_within a n lt = omega arith

pub next_within_same : (a m n : ℕ) → a < m → m ≡ n → a + 1 ≤ n
next_within_same a m n lt same = omega arith

pub both_at_most : (a b : ℕ) → a ≤ b → b ≤ a → a ≡ b
both_at_most a b p q = omega arith

pub no_times : (a b : ℕ) → a ≡ a + b * 0
no_times a b = omega arith

pub times_more : (now before start size' size k : ℕ) → now ≡ before + size' → size' ≡ size → before ≡ start + size * k → now ≡ start + size * (k + 1)
times_more now before start size' size k p same q = omega (arith, mul-add size k 1)

pub times_all : (now start size k n : ℕ) → k ≡ n → now ≡ start + size * k → now ≡ start + size * n
times_all now start size k n same p = subst (λ (m : ℕ). now ≡ start + size * m) same p

pub next_below : (a b c : ℕ) → a < b → b ≤ c → a < c
next_below a b c p q = omega arith

-- a cost that grows with the places passed
pub cost_more : (now before start k : ℕ) → now ≤ before + 1 → before ≤ start + k → now ≤ start + (k + 1)
cost_more now before start k p q = omega arith

pub cost_all : (now start k n : ℕ) → now ≤ start + k → k ≤ n → now ≤ start + n
cost_all now start k n p q = omega arith

pub row_few : (row first k : ℕ) → row ≡ first + k → row < 64 → k + 1 ≤ 64
row_few row first k e lt = omega arith

pub row_within : (row first k n : ℕ) → row ≡ first + k → row < 64 → n ≡ 64 → k < n
row_within row first k n e lt len = omega arith

pub row_of : (spans : List Span) (k : ℕ) (d : Span) (size size' : ℕ) → k < length spans → AreMarked spans → AreTiles size spans → size' ≡ size → (get_or spans k d).row < size'
row_of spans k d size size' lt marked tiles same = omega (arith, row_of_span spans k d lt marked size tiles, same)

-- of the spans from the first on, the masks are gathered
module _ (spans : List Span) (masks : List ℕ) (e : Span) where
  pub run_started : 0 < length spans → length masks ≡ 64 → IsRun spans (set masks 0 (get_or spans 0 e).mask) 1
  run_started some len = record {
    step = λ k d lt. (let z : k ≡ 0 = omega arith in ap (λ m. (get_or spans m d).step) z);
    row = λ k d lt. (let z : k ≡ 0 = omega arith in
        let r : (get_or spans k d).row ≡ (get_or spans 0 d).row = ap (λ m. (get_or spans m d).row) z in
        omega (arith, r, z));
    mask = λ k d lt. (let z : k ≡ 0 = omega arith in
        ap (λ m. get_or (set masks 0 (get_or spans 0 e).mask) m 0) z ∙ get_or-set_same masks 0 (get_or spans 0 e).mask 0 (omega (arith, len))
        ∙ ap (λ (s : Span). s.mask) (get_or_default spans 0 e d some) ∙ ap (λ m. (get_or spans m d).mask) (sym z));
  }

  pub run_more : (count : ℕ) → 0 < count → count < length spans → count < length masks
      → (get_or spans count e).step ≡ (get_or spans 0 e).step → (get_or spans count e).row ≡ (get_or spans 0 e).row + count
      → IsRun spans masks count → IsRun spans (set masks count (get_or spans count e).mask) (count + 1)
  run_more count some within room same_step next_row is = record {
    step = λ k d lt. elim (cases_eq k count) [
      | inl z ↦ ap (λ m. (get_or spans m d).step) z ∙ ap (λ (s : Span). s.step) (get_or_default spans count d e within) ∙ same_step ∙ ap (λ (s : Span). s.step) (get_or_default spans 0 e d (omega arith))
      | inr n ↦ is.step k d (omega arith)
    ];
    row = λ k d lt. elim (cases_eq k count) [
      | inl z ↦ ap (λ m. (get_or spans m d).row) z ∙ ap (λ (s : Span). s.row) (get_or_default spans count d e within) ∙ next_row ∙ ap (λ (s : Span). s.row + count) (get_or_default spans 0 e d (omega arith)) ∙ ap (λ m. (get_or spans 0 d).row + m) (sym z)
      | inr n ↦ is.row k d (omega arith)
    ];
    mask = λ k d lt. elim (cases_eq k count) [
      | inl z ↦ ap (λ m. get_or (set masks count (get_or spans count e).mask) m 0) z ∙ get_or-set_same masks count (get_or spans count e).mask 0 room
          ∙ ap (λ (s : Span). s.mask) (get_or_default spans count e d within) ∙ ap (λ m. (get_or spans m d).mask) (sym z)
      | inr n ↦ get_or-set_other masks count k (get_or spans count e).mask 0 n ∙ is.mask k d (omega arith)
    ];
  }

-- at the start no mark is taken
pub none_unmarked : (a : Bool) → a ≡ (a && true)
none_unmarked true = refl
none_unmarked false = refl

module _ (size horizon now : ℕ) (old words : List ℕ) (spans : List Span) (k : ℕ) (d : Span) where
  pub unmarked_next : k < length spans → AreTiles size spans → AreMarked spans → (size' horizon' : ℕ) (new : List ℕ) → size' ≡ size → horizon' ≡ horizon
      → ((cell : Cell) → in_box size' horizon' now cell ≡ true → has_mark new size' horizon' cell ≡ (has_mark words size' horizon' cell && not (in_span (get_or spans k d) cell)))
      → ((cell : Cell) → in_box size horizon now cell ≡ true → has_mark words size horizon cell ≡ (has_mark old size horizon cell && not (in_spans (take k spans) cell)))
      → (cell : Cell) → in_box size horizon now cell ≡ true → has_mark new size horizon cell ≡ (has_mark old size horizon cell && not (in_spans (take (k + 1) spans) cell))
  unmarked_next lt tiles marked size' horizon' new same_size same_horizon step before =
      unmarked_more size horizon now old spans k d lt tiles marked words new
      (subst (λ (s : ℕ). (cell : Cell) → in_box s horizon now cell ≡ true → has_mark new s horizon cell ≡ (has_mark words s horizon cell && not (in_span (get_or spans k d) cell))) same_size
      (subst (λ (h : ℕ). (cell : Cell) → in_box size' h now cell ≡ true → has_mark new size' h cell ≡ (has_mark words size' h cell && not (in_span (get_or spans k d) cell))) same_horizon step))
      before

  pub unmarked_all : length spans ≤ k
      → ((cell : Cell) → in_box size horizon now cell ≡ true → has_mark words size horizon cell ≡ (has_mark old size horizon cell && not (in_spans (take k spans) cell)))
      → (cell : Cell) → in_box size horizon now cell ≡ true → has_mark words size horizon cell ≡ (has_mark old size horizon cell && not (in_spans spans cell))
  unmarked_all end before = subst (λ (ss : List Span). (cell : Cell) → in_box size horizon now cell ≡ true → has_mark words size horizon cell ≡ (has_mark old size horizon cell && not (in_spans ss cell))) (take_all k spans end) before

-- the same of marks that are set
pub none_marked : (a : Bool) → a ≡ (a || false)
none_marked true = refl
none_marked false = refl

pub marked_all : (size horizon : ℕ) (old words : List ℕ) (spans : List Span) (k : ℕ) → length spans ≤ k
    → ((now : ℕ) → AreAhead now horizon spans → (cell : Cell) → in_box size horizon now cell ≡ true → has_mark words size horizon cell ≡ (has_mark old size horizon cell || in_spans (take k spans) cell))
    → (now : ℕ) → AreAhead now horizon spans → (cell : Cell) → in_box size horizon now cell ≡ true → has_mark words size horizon cell ≡ (has_mark old size horizon cell || in_spans spans cell)
marked_all size horizon old words spans k end before now ahead cell box = before now ahead cell box ∙ ap (λ (ss : List Span). has_mark old size horizon cell || in_spans ss cell) (take_all k spans end)

module _ (size horizon : ℕ) (old words : List ℕ) (spans : List Span) (k : ℕ) (d : Span) (lt : k < length spans) (tiles : AreTiles size spans) (marked : AreMarked spans)
    (size' horizon' page : ℕ) (same_size : size' ≡ size) (same_horizon : horizon' ≡ horizon) (place : page ≡ (get_or spans k d).step % horizon' * size') (within : page + size' ≤ length words) where
  pub place_within : page + (get_or spans k d).row < length words
  place_within = omega (arith, row_of_span spans k d lt marked size tiles, same_size, within)

  pub marked_next : 0 < horizon → (new : List ℕ) → new ≡ set words (page + (get_or spans k d).row) (bit_or (get_or words (page + (get_or spans k d).row) 0) (get_or spans k d).mask)
      → ((now : ℕ) → AreAhead now horizon spans → (cell : Cell) → in_box size horizon now cell ≡ true → has_mark words size horizon cell ≡ (has_mark old size horizon cell || in_spans (take k spans) cell))
      → (now : ℕ) → AreAhead now horizon spans → (cell : Cell) → in_box size horizon now cell ≡ true → has_mark new size horizon cell ≡ (has_mark old size horizon cell || in_spans (take (k + 1) spans) cell)
  marked_next some new is before now ahead =
      let at : page + (get_or spans k d).row ≡ place_of size horizon (get_or spans k d).step (get_or spans k d).row
      = ap (λ x. x + (get_or spans k d).row) place ∙ (λ i. (get_or spans k d).step % same_horizon i * same_size i + (get_or spans k d).row) in
      marked_more size horizon now old spans k d lt tiles marked some ahead words new (page + (get_or spans k d).row) at place_within is (before now ahead)

-- where a page begins, at the start and where its size and horizon stay
pub first_page : (horizon size : ℕ) → 0 < horizon → 0 ≡ 0 % horizon * size
first_page horizon size some =
    let z : 0 % horizon ≡ 0 = omega arith in
    sym (ap (λ x. x * size) z ∙ zero-mul size)

pub page_stays : (page step horizon size horizon' size' : ℕ) → page ≡ step % horizon * size → horizon' ≡ horizon → size' ≡ size → page ≡ step % horizon' * size'
page_stays page step horizon size horizon' size' place same_horizon same_size = place ∙ (λ i. step % sym same_horizon i * sym same_size i)

-- a count that grows with the places passed
pub count_more : (now before start k : ℕ) → now ≡ before + 1 → before ≡ start + k → now ≡ start + (k + 1)
count_more now before start k p q = omega arith

pub count_all : (now start k n : ℕ) → k ≤ n → n ≤ k → now ≡ start + k → now ≡ start + n
count_all now start k n le ge p = omega arith

-- at the start no step is cleared
pub none_cleared : (words : List ℕ) (size horizon now : ℕ) (cell : Cell) → in_box size horizon now cell ≡ true → has_mark words size horizon cell ≡ (has_mark words size horizon cell && nat_le (now + 0) cell.step)
none_cleared words size horizon now cell is =
    let box : InBox size horizon now cell = box_parts size horizon now cell is in
    none_unmarked (has_mark words size horizon cell) ∙ ap (λ b. has_mark words size horizon cell && b) (sym (le-leb (now + 0) cell.step (omega (arith, box.from))))

pub cleared_all : (size horizon now gone leaving : ℕ) (old words : List ℕ) → gone ≡ leaving
    → ((cell : Cell) → in_box size horizon now cell ≡ true → has_mark words size horizon cell ≡ (has_mark old size horizon cell && nat_le (now + gone) cell.step))
    → (cell : Cell) → in_box size horizon now cell ≡ true → has_mark words size horizon cell ≡ (has_mark old size horizon cell && nat_le (now + leaving) cell.step)
cleared_all size horizon now gone leaving old words same before cell box = before cell box ∙ ap (λ n. has_mark old size horizon cell && nat_le (now + n) cell.step) same

-- no place is passed at the start, and each at the end
pub none_clear : (test : Span → Cell → Bool) (spans : List Span) (k : ℕ) (d : Span) → k < 0 → IsClear test (get_or spans k d)
none_clear test spans k d lt = absurd (omega arith)

pub all_clear : (test : Span → Cell → Bool) (spans : List Span) (at : ℕ) → length spans ≤ at → ((k : ℕ) (d : Span) → k < at → IsClear test (get_or spans k d)) → (k : ℕ) (d : Span) → k < length spans → IsClear test (get_or spans k d)
all_clear test spans at end clear k d lt = clear k d (omega arith)
