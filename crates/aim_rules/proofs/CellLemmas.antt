-- The least cell that can't be had.
use Rattle.std.proofs.lemmas.Bool.{and_parts}
use Rattle.aim_geometry.specs.Bounded.{ceil_div, find_map}
use Rattle.aim_geometry.proofs.TouchLemmas.{any_touched_inside}
use Rattle.aim_rules.specs.Footprint.{covered, crossing_steps, in_footprint}
use Rattle.std.proofs.Common.{◌≡◌, ℕ, zero, suc, ◌+◌, ◌*◌, ◌-◌, ◌<◌, ◌≤◌, Bool, true, false, cond, ◌&&◌, nat_le, List, [], ◌∷◌, ◌++◌, map, filter, Option, Some, None, arith, refl, sym, ◌∙◌, ◌⊎◌, inl, inr}
use Rattle.std.specs.Prelude.{flat_map}
use Rattle.std.proofs.Math.Decide.{dec_lt}
use Rattle.std.specs.List.{range_with_len}
use Rattle.std.proofs.lemmas.Bool.Decides.{nat_tests}
use Rattle.aim_messages.specs.declared.messages.Params.{Params}
use Rattle.aim_geometry.specs.Ground.{is_edge}
use Rattle.aim_layout.specs.Intersection.{Intersection}
use Rattle.aim_geometry.specs.Cells.{Cell}
use Rattle.aim_rules.specs.Cells.{IsIn, block, is_buffered, in_cells, cells, steps_of}
use Rattle.aim_geometry.proofs.BoundedLemmas.{some_below_found}

-- c comes before d by step, row and column
abbrev pub Before : Cell → Cell → Type 0
Before c d = (c.step < d.step) ⊎ ((c.step ≡ d.step) × ((c.row < d.row) ⊎ ((c.row ≡ d.row) × (c.col < d.col))))

abbrev pub Ascending : List Cell → Type 0
Ascending [] = Unit {0}
Ascending (x ∷ xs) = ((d : Cell) → IsIn d xs → Before x d) × Ascending xs

-- In a list in order, what is found is at the least element for which there is anything.
pub find_map-least : {Y : Type 0} (f : Cell → Option Y) (xs : List Cell) (c : Cell) (y : Y) → Ascending xs → IsIn c xs → ((d : Cell) → IsIn d xs → Before d c → f d ≡ None) → f c ≡ Some y → find_map f xs ≡ Some y
find_map-least f [] c y asc at none here = absurd at
find_map-least f (x ∷ xs) c y asc (inl e) none here = rw (← e, here) refl
find_map-least f (x ∷ xs) c y asc (inr m) none here = rw (none x (inl refl) (asc.0 c m)) (find_map-least f xs c y asc.1 m (λ d i. none d (inr i)) here)

pub find_map-none : {Y : Type 0} (f : Cell → Option Y) (xs : List Cell) → ((d : Cell) → IsIn d xs → f d ≡ None) → find_map f xs ≡ None
find_map-none f [] none = refl
find_map-none f (x ∷ xs) none = rw (none x (inl refl)) (find_map-none f xs (λ d i. none d (inr i)))

in_cond : {X : Type 0} (b : Bool) (c x : X) (xs : List X) → IsIn c xs → IsIn c (cond b (x ∷ xs) xs)
in_cond true c x xs m = inr m
in_cond false c x xs m = m

pub IsIn-filter : {X : Type 0} (q : X → Bool) (xs : List X) (c : X) → IsIn c xs → q c ≡ true → IsIn c (filter q xs)
IsIn-filter q [] c at t = at
IsIn-filter q (x ∷ xs) c (inl e) t = rw (← e, t) (inl refl)
IsIn-filter q (x ∷ xs) c (inr m) t = in_cond (q x) c x (filter q xs) (IsIn-filter q xs c m t)

from_cond : {X : Type 0} (P : X → Type 0) (b : Bool) (c x : X) (xs : List X) → (b ≡ true → P x) → (IsIn c xs → P c) → IsIn c (cond b (x ∷ xs) xs) → P c
from_cond P true c x xs head tail (inl e) = rw e (head refl)
from_cond P true c x xs head tail (inr m) = tail m
from_cond P false c x xs head tail m = tail m

pub IsIn-from_filter : {X : Type 0} (q : X → Bool) (xs : List X) (c : X) → IsIn c (filter q xs) → IsIn c xs × (q c ≡ true)
IsIn-from_filter q [] c at = absurd at
IsIn-from_filter q (x ∷ xs) c at =
    from_cond (λ d. IsIn d (x ∷ xs) × (q d ≡ true)) (q x) c x (filter q xs) (λ t. (inl refl, t))
    (λ m. let r = IsIn-from_filter q xs c m in (inr r.0, r.1)) at

ascending_cond : (b : Bool) (x : Cell) (xs : List Cell) → ((d : Cell) → IsIn d xs → Before x d) → Ascending xs → Ascending (cond b (x ∷ xs) xs)
ascending_cond true x xs first rest = (first, rest)
ascending_cond false x xs first rest = rest

pub Ascending-filter : (q : Cell → Bool) (xs : List Cell) → Ascending xs → Ascending (filter q xs)
Ascending-filter q [] asc = asc
Ascending-filter q (x ∷ xs) asc =
    ascending_cond (q x) x (filter q xs) (λ d m. asc.0 d (IsIn-from_filter q xs d m).0) (Ascending-filter q xs asc.1)

pub IsIn-append : {X : Type 0} (xs ys : List X) (c : X) → IsIn c xs ⊎ IsIn c ys → IsIn c (xs ++ ys)
IsIn-append [] ys c (inl m) = absurd m
IsIn-append [] ys c (inr m) = m
IsIn-append (x ∷ xs) ys c (inl (inl e)) = inl e
IsIn-append (x ∷ xs) ys c (inl (inr m)) = inr (IsIn-append xs ys c (inl m))
IsIn-append (x ∷ xs) ys c (inr m) = inr (IsIn-append xs ys c (inr m))

pub IsIn-from_append : {X : Type 0} (xs ys : List X) (c : X) → IsIn c (xs ++ ys) → IsIn c xs ⊎ IsIn c ys
IsIn-from_append [] ys c m = inr m
IsIn-from_append (x ∷ xs) ys c (inl e) = inl (inl e)
IsIn-from_append (x ∷ xs) ys c (inr m) = elim (IsIn-from_append xs ys c m) [ inl a ↦ inl (inr a) | inr b ↦ inr b ]

pub Ascending-append : (xs ys : List Cell) → Ascending xs → Ascending ys → ((c d : Cell) → IsIn c xs → IsIn d ys → Before c d) → Ascending (xs ++ ys)
Ascending-append [] ys a b between = b
Ascending-append (x ∷ xs) ys a b between = (
  λ d m. elim (IsIn-from_append xs ys d m) [ inl l ↦ a.0 d l | inr r ↦ between x d (inl refl) r ],
  Ascending-append xs ys a.1 b (λ c d m n. between c d (inr m) n),
)

-- the cells of a row from a column on, of the rows from a row on, and of the steps from a step on
row_cells : ℕ → ℕ → ℕ → ℕ → List Cell
row_cells s r a k = map (λ c. record { row = r; col = c; step = s }) (range_with_len a k)

in_row : (s r a k : ℕ) (d : Cell) → IsIn d (row_cells s r a k) → (d.step ≡ s) × (d.row ≡ r) × (a ≤ d.col) × (d.col < a + k)
unfolding row_cells
in_row s r a zero d m = absurd m
in_row s r a (suc k) d (inl e) = rw e (refl, refl, omega arith, omega arith)
in_row s r a (suc k) d (inr m) = let h = in_row s r (a + 1) k d m in (h.0, h.1, omega arith, omega arith)

ascending_row : (s r a k : ℕ) → Ascending (row_cells s r a k)
unfolding row_cells
ascending_row s r a zero = tt
ascending_row s r a (suc k) = (λ d m. let h = in_row s r (a + 1) k d m in inr (sym h.0, inr (sym h.1, omega arith)), ascending_row s r (a + 1) k)

step_cells : ℕ → ℕ → ℕ → ℕ → List Cell
step_cells n s a k = flat_map (λ r. map (λ c. record { row = r; col = c; step = s }) (range_with_len 0 n)) (range_with_len a k)

in_step : (n s a k : ℕ) (d : Cell) → IsIn d (step_cells n s a k) → (d.step ≡ s) × (a ≤ d.row) × (d.row < a + k) × (d.col < n)
unfolding step_cells row_cells
in_step n s a zero d m = absurd m
in_step n s a (suc k) d m = elim (IsIn-from_append (row_cells s a 0 n) (step_cells n s (a + 1) k) d m) [
  | inl l ↦ (let h = in_row s a 0 n d l in (h.0, omega arith, omega arith, omega arith))
  | inr r ↦ (let h = in_step n s (a + 1) k d r in (h.0, omega arith, omega arith, h.3))
]

ascending_step : (n s a k : ℕ) → Ascending (step_cells n s a k)
unfolding step_cells row_cells
ascending_step n s a zero = tt
ascending_step n s a (suc k) =
    Ascending-append (row_cells s a 0 n) (step_cells n s (a + 1) k) (ascending_row s a 0 n) (ascending_step n s (a + 1) k)
    (λ c d l r. let h = in_row s a 0 n c l in let g = in_step n s (a + 1) k d r in inr (h.0 ∙ sym g.0, inl (omega arith)))

in_block : (n a k : ℕ) (d : Cell) → IsIn d (block n (range_with_len a k)) → (a ≤ d.step) × (d.step < a + k) × (d.row < n) × (d.col < n)
unfolding step_cells
in_block n a zero d m = absurd m
in_block n a (suc k) d m = elim (IsIn-from_append (step_cells n a 0 n) (block n (range_with_len (a + 1) k)) d m) [
  | inl l ↦ (let h = in_step n a 0 n d l in (omega arith, omega arith, omega arith, h.3))
  | inr r ↦ (let h = in_block n (a + 1) k d r in (omega arith, omega arith, h.2, h.3))
]

pub Ascending-block : (n a k : ℕ) → Ascending (block n (range_with_len a k))
unfolding step_cells
Ascending-block n a zero = tt
Ascending-block n a (suc k) =
    Ascending-append (step_cells n a 0 n) (block n (range_with_len (a + 1) k)) (ascending_step n a 0 n) (Ascending-block n (a + 1) k)
    (λ c d l r. let h = in_step n a 0 n c l in let g = in_block n (a + 1) k d r in inl (omega arith))

row_has : (s r a k : ℕ) (d : Cell) → d.step ≡ s → d.row ≡ r → a ≤ d.col → d.col < a + k → IsIn d (row_cells s r a k)
unfolding row_cells
row_has s r a zero d x y low high = absurd (omega arith)
row_has s r a (suc k) d x y low high = elim (dec_lt a d.col) [
  | yes b ↦ inr (row_has s r (a + 1) k d x y (omega arith) (omega arith))
  | no b ↦ (let e : d.col ≡ a = omega arith in inl (λ i. record { row = y i; col = e i; step = x i }))
]

step_has : (n s a k : ℕ) (d : Cell) → d.step ≡ s → a ≤ d.row → d.row < a + k → d.col < n → IsIn d (step_cells n s a k)
unfolding step_cells row_cells
step_has n s a zero d x low high c = absurd (omega arith)
step_has n s a (suc k) d x low high c = IsIn-append (row_cells s a 0 n) (step_cells n s (a + 1) k) d (elim (dec_lt a d.row) [
  | yes b ↦ inr (step_has n s (a + 1) k d x (omega arith) (omega arith) c)
  | no b ↦ inl (row_has s a 0 n d x (omega arith) (omega arith) (omega arith))
])

-- every cell of the grid in one of the steps is there
pub IsIn-block : (n a k : ℕ) (d : Cell) → a ≤ d.step → d.step < a + k → d.row < n → d.col < n → IsIn d (block n (range_with_len a k))
unfolding step_cells
IsIn-block n a zero d low high r c = absurd (omega arith)
IsIn-block n a (suc k) d low high r c = IsIn-append (step_cells n a 0 n) (block n (range_with_len (a + 1) k)) d (elim (dec_lt a d.step) [
  | yes b ↦ inr (IsIn-block n (a + 1) k d (omega arith) (omega arith) r c)
  | no b ↦ inl (step_has n a 0 n d (omega arith) (omega arith) (omega arith) c)
])

pub and_left : (a b : Bool) → (a && b) ≡ true → a ≡ true
and_left true b h = refl
and_left false b h = h

pub both_le : (a b c d : ℕ) → (nat_le a b && nat_le c d) ≡ true → (a ≤ b) × (c ≤ d)
both_le a b c d h = grind (arith, nat_tests)

-- a tile is kept at most the edge buffer before and after the vehicle
pub kept_within : (i : Intersection) (r c at s : ℕ) → i.times.early ≤ i.times.edge → i.times.late ≤ i.times.edge → is_buffered i r c at s ≡ true → (at ≤ s + i.times.edge) × (s ≤ at + i.times.edge)
kept_within i r c at s before after h = go (is_edge i.grid r c) refl
  where
    go : (b : Bool) → is_edge i.grid r c ≡ b → (at ≤ s + i.times.edge) × (s ≤ at + i.times.edge)
    go true e = both_le at (s + i.times.edge) s (at + i.times.edge) (rw e at h)
    go false e = let k = both_le at (s + i.times.early) s (at + i.times.late) (rw e at h) in (omega arith, omega arith)

-- a needed cell's tile is one of the grid's
pub cells_inside : (i : Intersection) (p : Params) (fast : Bool) (c : Cell) → in_cells i p fast c ≡ true → (c.row < i.grid.n) × (c.col < i.grid.n)
cells_inside i p fast c h =
    let f = some_below_found (crossing_steps i p fast) (λ k. is_buffered i c.row c.col (p.arrive + k) c.step && in_footprint i p fast i.grid.fixed k c.row c.col) h in
    let under = (and_parts (is_buffered i c.row c.col (p.arrive + f.0) c.step) (in_footprint i p fast i.grid.fixed f.0 c.row c.col) f.2).1 in
    any_touched_inside i.grid (ceil_div p.width 2 + i.grid.spacing + i.grid.fixed) (covered i p fast f.0) c.row c.col under

-- what the crossing needs is in its list of cells
pub cells_has : (i : Intersection) (p : Params) (fast : Bool) (c : Cell) → i.times.early ≤ i.times.edge → i.times.late ≤ i.times.edge → in_cells i p fast c ≡ true → IsIn c (cells i p fast)
cells_has i p fast c before after h =
    let f = some_below_found (crossing_steps i p fast) (λ k. is_buffered i c.row c.col (p.arrive + k) c.step && in_footprint i p fast i.grid.fixed k c.row c.col) h in
    let w = kept_within i c.row c.col (p.arrive + f.0) c.step before after (and_left (is_buffered i c.row c.col (p.arrive + f.0) c.step) (in_footprint i p fast i.grid.fixed f.0 c.row c.col) f.2) in
    let inside = cells_inside i p fast c h in
    IsIn-filter (in_cells i p fast) (block i.grid.n (steps_of i p fast)) c (IsIn-block i.grid.n (p.arrive - i.times.edge) (crossing_steps i p fast + 2 * i.times.edge) c (omega arith) (omega arith) inside.0 inside.1) h

-- and what is in the list is needed
pub cells_needed : (i : Intersection) (p : Params) (fast : Bool) (c : Cell) → IsIn c (cells i p fast) → in_cells i p fast c ≡ true
cells_needed i p fast c m = (IsIn-from_filter (in_cells i p fast) (block i.grid.n (steps_of i p fast)) c m).1

-- What is found over the cells of a crossing is at the least of them where there is anything.
pub find_map-cells : {Y : Type 0} (i : Intersection) (p : Params) (fast : Bool) (f : Cell → Option Y) (c : Cell) (y : Y) → i.times.early ≤ i.times.edge → i.times.late ≤ i.times.edge →
    in_cells i p fast c ≡ true → f c ≡ Some y →
    ((d : Cell) → in_cells i p fast d ≡ true → Before d c → f d ≡ None) →
    find_map f (cells i p fast) ≡ Some y
find_map-cells i p fast f c y before after h here none =
    find_map-least f (cells i p fast) c y (Ascending-filter (in_cells i p fast) (block i.grid.n (steps_of i p fast)) (Ascending-block i.grid.n (p.arrive - i.times.edge) (crossing_steps i p fast + 2 * i.times.edge)))
    (cells_has i p fast c before after h) (λ d m b. none d (cells_needed i p fast d m) b) here
