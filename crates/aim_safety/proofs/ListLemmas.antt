-- What stands in the list of tiles, and in which order.
use Rattle.std.proofs.Common.{◌≡◌, inl, inr, ℕ, zero, suc, ◌+◌, ◌<◌, ◌≤◌, Bool, true, false, ◌&&◌, cond, List, [], ◌∷◌, ◌++◌, filter, Option, Some, None, arith, refl, sym, subst, ◌∙◌, ◌↔◌}
use Rattle.std.specs.Prelude.{◌==◌, flat_map}
use Rattle.std.specs.List.{range_with_len}
use Rattle.std.proofs.Math.Decide.{dec_lt}
use Rattle.aim_messages.specs.declared.entries.Entry.{Entry}
use Rattle.aim_geometry.proofs.BoundedLemmas.{some_below_found}
use Rattle.aim_layout.specs.Intersection.{Intersection}
use Rattle.aim_rules.specs.Footprint.{crossing_steps, in_footprint}
use Rattle.aim_geometry.specs.Cells.{Cell}
use Rattle.aim_rules.specs.Cells.{IsIn}
use Rattle.aim_rules.proofs.CellLemmas.{IsIn-filter, IsIn-from_filter, IsIn-append, IsIn-from_append}
use Rattle.aim_rules.proofs.TestLemmas.{and_left, and_right, same_number}
use Rattle.aim_driver.specs.declared.logs.LogItem.{LogItem}
use Rattle.aim_safety.specs.Occupied.{Passage, passage, is_on, is_occupied_by, is_occupied}
use Rattle.aim_safety.specs.Tiles.{of_tile, of_row, of_rows, cells_of_passage, occupied_cells, Precedes, IsRising}
use Rattle.aim_safety.proofs.OccupiedLemmas.{inside_grid}

-- what is in one of the parts is in the list of them
part_in : (f : ℕ → List Cell) (a n k : ℕ) (c : Cell) → a ≤ k → k < a + n → IsIn c (f k) → IsIn c (flat_map f (range_with_len a n))
part_in f a zero k c low high m = absurd (omega arith)
part_in f a (suc n) k c low high m = IsIn-append (f a) (flat_map f (range_with_len (a + 1) n)) c (elim (dec_lt a k) [
  | yes b ↦ inr (part_in f (a + 1) n k c (omega arith) (omega arith) m)
  | no b ↦ (let e : k ≡ a = omega arith in inl (let P : ℕ → Type 0 = λ k. IsIn c (f k) in subst P e m))
])

in_part : (f : ℕ → List Cell) (a n : ℕ) (c : Cell) → IsIn c (flat_map f (range_with_len a n)) → (k : ℕ) × (a ≤ k) × (k < a + n) × IsIn c (f k)
in_part f a zero c m = absurd m
in_part f a (suc n) c m = elim (IsIn-from_append (f a) (flat_map f (range_with_len (a + 1) n)) c m) [
  | inl l ↦ (a, omega arith, omega arith, l)
  | inr r ↦ (let g = in_part f (a + 1) n c r in let low = g.1 in let high = g.2 in (g.0, omega arith, omega arith, g.3))
]

step_in : (first n row col : ℕ) (c : Cell) → c.row ≡ row → c.col ≡ col → first ≤ c.step → c.step < first + n → IsIn c (of_tile first n row col)
step_in first zero row col c x y low high = absurd (omega arith)
step_in first (suc n) row col c x y low high = elim (dec_lt first c.step) [
  | yes b ↦ inr (step_in (first + 1) n row col c x y (omega arith) (omega arith))
  | no b ↦ (let e : c.step ≡ first = omega arith in inl (λ j. record { row = x j; col = y j; step = e j }))
]

in_step : (first n row col : ℕ) (c : Cell) → IsIn c (of_tile first n row col) → (c.row ≡ row) × (c.col ≡ col) × (first ≤ c.step) × (c.step < first + n)
in_step first zero row col c m = absurd m
in_step first (suc n) row col c (inl e) = rw e (refl, refl, omega arith, omega arith)
in_step first (suc n) row col c (inr m) = let g = in_step (first + 1) n row col c m in let low = g.2 in let high = g.3 in (g.0, g.1, omega arith, omega arith)

cell_in : (first count n rows : ℕ) (c : Cell) → c.row < rows → c.col < n → first ≤ c.step → c.step < first + count → IsIn c (of_rows first count n rows)
cell_in first count n rows c r l low high =
    part_in (of_row first count n) 0 rows c.row c (omega arith) (omega arith) (part_in (of_tile first count c.row) 0 n c.col c (omega arith) (omega arith) (step_in first count c.row c.col c refl refl low high))

-- order

rising_append : (xs ys : List Cell) → IsRising xs → IsRising ys → ((c d : Cell) → IsIn c xs → IsIn d ys → Precedes c d) → IsRising (xs ++ ys)
rising_append [] ys a b between = b
rising_append (x ∷ xs) ys a b between = (
  λ d m. elim (IsIn-from_append xs ys d m) [ inl l ↦ a.0 d l | inr r ↦ between x d (inl refl) r ],
  rising_append xs ys a.1 b (λ c d m n. between c d (inr m) n),
)

rising_parts : (f : ℕ → List Cell) (a n : ℕ) → ((k : ℕ) → IsRising (f k)) → ((j k : ℕ) (c d : Cell) → j < k → IsIn c (f j) → IsIn d (f k) → Precedes c d) → IsRising (flat_map f (range_with_len a n))
rising_parts f a zero each between = tt
rising_parts f a (suc n) each between =
    rising_append (f a) (flat_map f (range_with_len (a + 1) n)) (each a) (rising_parts f (a + 1) n each between)
    (λ c d l r. let g = in_part f (a + 1) n d r in let low = g.1 in between a g.0 c d (omega arith) l g.3)

rising_steps : (first n row col : ℕ) → IsRising (of_tile first n row col)
rising_steps first zero row col = tt
rising_steps first (suc n) row col = (λ d m. let g = in_step (first + 1) n row col d m in let low = g.2 in inr (inr (sym g.0, sym g.1, omega arith)), rising_steps (first + 1) n row col)

rising_row : (first count n row : ℕ) → IsRising (of_row first count n row)
rising_row first count n row = rising_parts (of_tile first count row) 0 n (rising_steps first count row)
    (λ j k c d l m o. let g = in_step first count row j c m in let h = in_step first count row k d o in let x = g.1 in let y = h.1 in inr (inl (g.0 ∙ sym h.0, omega arith)))

row_of : (first count n row : ℕ) (c : Cell) → IsIn c (of_row first count n row) → c.row ≡ row
row_of first count n row c m = let g = in_part (of_tile first count row) 0 n c m in (in_step first count row g.0 c g.3).0

rising_rows : (first count n rows : ℕ) → IsRising (of_rows first count n rows)
rising_rows first count n rows = rising_parts (of_row first count n) 0 rows (rising_row first count n)
    (λ j k c d l m o. let x = row_of first count n j c m in let y = row_of first count n k d o in inl (omega arith))

rising_filter : (q : Cell → Bool) (xs : List Cell) → IsRising xs → IsRising (filter q xs)
rising_filter q [] r = tt
rising_filter q (x ∷ xs) r = go (q x) (rising_filter q xs r.1)
  where
    go : (b : Bool) → IsRising (filter q xs) → IsRising (cond b (x ∷ filter q xs) (filter q xs))
    go true later = (λ d m. r.0 d (IsIn-from_filter q xs d m).0, later)
    go false later = later

pub list_rises : (i : Intersection) (h : List Entry) (log : List LogItem) → IsRising (occupied_cells i h log)
list_rises i h log = go (passage i h log)
  where
    go : (o : Option Passage) → IsRising (cells_of_passage i o)
    go None = tt
    go (Some x) = let count = crossing_steps i x.grant.params x.grant.fast in rising_filter (is_on i x) (of_rows x.step count i.grid.n i.grid.n) (rising_rows x.step count i.grid.n i.grid.n)

pub list_has : (i : Intersection) (h : List Entry) (log : List LogItem) (c : Cell) → IsIn c (occupied_cells i h log) ↔ (is_occupied i h log c ≡ true)
list_has i h log c = go (passage i h log)
  where
    has : (x : Passage) → is_on i x c ≡ true → IsIn c (cells_of_passage i (Some x))
    has x on =
        let count = crossing_steps i x.grant.params x.grant.fast in
        let f = some_below_found count (λ k. c.step == x.step + k && in_footprint i x.grant.params x.grant.fast 0 k c.row c.col) on in
        let s = same_number c.step (x.step + f.0) (and_left (c.step == x.step + f.0) (in_footprint i x.grant.params x.grant.fast 0 f.0 c.row c.col) f.2) in
        let b = inside_grid i x.grant.params x.grant.fast 0 f.0 c.row c.col (and_right (c.step == x.step + f.0) (in_footprint i x.grant.params x.grant.fast 0 f.0 c.row c.col) f.2) in
        let below = f.1 in
        IsIn-filter (is_on i x) (of_rows x.step count i.grid.n i.grid.n) c (cell_in x.step count i.grid.n i.grid.n c b.0 b.1 (omega arith) (omega arith)) on

    go : (o : Option Passage) → IsIn c (cells_of_passage i o) ↔ (is_occupied_by i o c ≡ true)
    go None = (λ m. absurd m, λ e. absurd (cc))
    go (Some x) = (λ m. (IsIn-from_filter (is_on i x) (of_rows x.step (crossing_steps i x.grant.params x.grant.fast) i.grid.n i.grid.n) c m).1, has x)
