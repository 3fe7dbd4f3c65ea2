-- The spans of a trial, step by step.
use Rattle.std.proofs.Common.{◌≡◌, ℕ, zero, suc, ◌+◌, ◌-◌, ◌*◌, ◌<◌, ◌≤◌, Bool, true, false, cond, ◌&&◌, List, [], ◌∷◌, ◌++◌, length, length-append, map, filter, arith, refl, sym, ◌∙◌, ap, add-one, nat_lt, lt-ltb, if◌then◌else◌}
use Rattle.std.specs.Prelude.{flat_map}
use Rattle.std.specs.List.{range_with_len}
use Rattle.std.proofs.lemmas.Grind.{flat_map-append}
use Rattle.std.proofs.lemmas.List.Elements.{filter-append}
use Rattle.std.proofs.lemmas.List.{append-nil, map-append}
use Rattle.std.proofs.lemmas.Bool.{and_parts, ltb-true}
use Rattle.std.proofs.Math.Decide.{dec_lt}
use Rattle.aim_messages.specs.declared.messages.Params.{Params}
use Rattle.aim_geometry.specs.Bounded.{some_below}
use Rattle.aim_geometry.proofs.BoundedLemmas.{some_below_found, some_below_none}
use Rattle.aim_layout.specs.Intersection.{Intersection}
use Rattle.aim_rules.specs.Motion.{front, sum_below}
use Rattle.aim_rules.proofs.MotionLemmas.{crossing_steps-least, front_zero}
use Rattle.aim_footprint.proofs.Unions.{alike}
use Rattle.aim_rules.specs.Footprint.{crossing_steps, in_footprint, path_length}
use Rattle.aim_geometry.specs.Cells.{Cell}
use Rattle.aim_rules.specs.Cells.{in_cells, is_buffered}
use Rattle.aim_rules.specs.Bad.{span_count}
use Rattle.aim_rules.proofs.CellLemmas.{kept_within}
use Rattle.aim_requests.specs.Counts.{count_below, needs_row, rows_needed, spans_before}
use Rattle.aim_requests.proofs.CountLemmas.{count_none, sum_none, sum_more, sum_rest, sum_rises}

range_more : (a k : ℕ) → range_with_len a (k + 1) ≡ range_with_len a k ++ (a + k) ∷ []
range_more a zero = let e : a + 0 ≡ a = omega arith in rw e refl
range_more a (suc k) =
    let e : a + 1 + k ≡ a + suc k = omega arith in
    let n : suc k + 1 ≡ suc (k + 1) = omega arith in
    rw n (rw e at (ap (λ xs. a ∷ xs) (range_more (a + 1) k)))

pub rows_counted : (q : Cell → Bool) (s n : ℕ) → length (filter q (map (λ r. record { row = r; col = 0; step = s }) (range_with_len 0 n))) ≡ count_below n (λ r. q (record { row = r; col = 0; step = s }))
unfolding count_below
rows_counted q s zero = refl
rows_counted q s (suc n) =
    let g = λ (r : ℕ). let c : Cell = record { row = r; col = 0; step = s } in c in
    let z : 0 + n ≡ n = omega arith in
    let t : length (filter q (map g (range_with_len 0 (n + 1)))) ≡ length (filter q (map g (range_with_len 0 n))) + (if q (g n) then 1 else 0) =
    ap (λ xs. length (filter q (map g xs))) (range_more 0 n)
    ∙ ap (λ xs. length (filter q xs)) (map-append g (range_with_len 0 n) ((0 + n) ∷ []))
    ∙ ap length (filter-append q (map g (range_with_len 0 n)) (g (0 + n) ∷ []))
    ∙ length-append (filter q (map g (range_with_len 0 n))) (filter q (g (0 + n) ∷ []))
    ∙ rw z (ap (λ k. length (filter q (map g (range_with_len 0 n))) + k) (one (q (g n)) (g n))) in
    rw (rows_counted q s n) at (rw (add-one n) at t)
  where
    one : (b : Bool) (c : Cell) → length (cond b (c ∷ []) []) ≡ (if b then 1 else 0)
    one true c = refl
    one false c = refl

-- a step more
steps_counted : (q : Cell → Bool) (rows : ℕ → List Cell) (f : ℕ → ℕ) (a k : ℕ) → ((s : ℕ) → length (filter q (rows s)) ≡ f s) →
    sum_below a f + length (filter q (flat_map rows (range_with_len a k))) ≡ sum_below (a + k) f
steps_counted q rows f a zero each = let e : a + 0 ≡ a = omega arith in rw e (omega arith)
steps_counted q rows f a (suc k) each =
    let r = steps_counted q rows f a k each in
    let e : a + suc k ≡ a + k + 1 = omega arith in
    let more : length (filter q (flat_map rows (range_with_len a (k + 1)))) ≡ length (filter q (flat_map rows (range_with_len a k))) + length (filter q (rows (a + k))) =
    ap (λ xs. length (filter q (flat_map rows xs))) (range_more a k)
    ∙ ap (λ xs. length (filter q xs)) (flat_map-append rows (range_with_len a k) ((a + k) ∷ []))
    ∙ ap length (filter-append q (flat_map rows (range_with_len a k)) (rows (a + k) ++ []))
    ∙ length-append (filter q (flat_map rows (range_with_len a k))) (filter q (rows (a + k) ++ []))
    ∙ ap (λ xs. length (filter q (flat_map rows (range_with_len a k))) + length (filter q xs)) (append-nil (rows (a + k))) in
    let s = sum_more (a + k) f in
    let h = each (a + k) in
    let t : sum_below a f + length (filter q (flat_map rows (range_with_len a (k + 1)))) ≡ sum_below (a + k + 1) f = omega arith in
    rw e (rw (add-one k) at t)

-- a cell that the crossing needs is in one of its steps
pub cells_near : (i : Intersection) (p : Params) (fast : Bool) (c : Cell) → i.times.early ≤ i.times.edge → i.times.late ≤ i.times.edge → in_cells i p fast c ≡ true →
    (p.arrive ≤ c.step + i.times.edge) × (c.step < p.arrive + crossing_steps i p fast + i.times.edge)
cells_near i p fast c early late h =
    let f = some_below_found (crossing_steps i p fast) (λ k. is_buffered i c.row c.col (p.arrive + k) c.step && in_footprint i p fast i.grid.fixed k c.row c.col) h in
    let l = f.1 in
    let b = and_parts (is_buffered i c.row c.col (p.arrive + f.0) c.step) (in_footprint i p fast i.grid.fixed f.0 c.row c.col) f.2 in
    let w = kept_within i c.row c.col (p.arrive + f.0) c.step early late b.0 in
    let w0 = w.0 in let w1 = w.1 in
    (omega arith, omega arith)

never : (b : Bool) → (b ≡ true → ⊥) → b ≡ false
never true h = absurd (h refl)
never false h = refl

-- the steps before and after those have no span
pub rows_far : (i : Intersection) (p : Params) (fast : Bool) (s : ℕ) → i.times.early ≤ i.times.edge → i.times.late ≤ i.times.edge →
    ((p.arrive ≤ s + i.times.edge) × (s < p.arrive + crossing_steps i p fast + i.times.edge) → ⊥) → rows_needed i p fast s ≡ 0
rows_far i p fast s early late far =
    count_none i.grid.n (needs_row i p fast s) (λ r l. some_below_none i.grid.n (λ col. in_cells i p fast (record { row = r; col = col; step = s }))
    (λ col m. never (in_cells i p fast (record { row = r; col = col; step = s })) (λ h. far (cells_near i p fast (record { row = r; col = col; step = s }) early late h))))

-- the number of spans is that of the steps
pub span_count_is : (i : Intersection) (p : Params) (fast : Bool) → i.times.early ≤ i.times.edge → i.times.late ≤ i.times.edge →
    span_count i p fast ≡ spans_before i p fast (p.arrive + crossing_steps i p fast + i.times.edge)
span_count_is i p fast early late =
    let f = rows_needed i p fast in
    let a = p.arrive - i.times.edge in
    let k = crossing_steps i p fast + 2 * i.times.edge in
    let all = steps_counted (λ c. some_below i.grid.n (λ col. in_cells i p fast (record c { col = col }))) (λ s. map (λ r. record { row = r; col = 0; step = s }) (range_with_len 0 i.grid.n)) f a k
    (λ s. rows_counted (λ c. some_below i.grid.n (λ col. in_cells i p fast (record c { col = col }))) s i.grid.n) in
    let none : sum_below a f ≡ 0 = sum_none a f (λ s l. rows_far i p fast s early late (λ b. let x = b.0 in omega arith)) in
    let rest = sum_rest (p.arrive + crossing_steps i p fast + i.times.edge) (a + k) f (omega arith) (λ s l m. rows_far i p fast s early late (λ b. let x = b.1 in omega arith)) in
    omega arith

-- before the first step with a cell there is none
pub none_before : (i : Intersection) (p : Params) (fast : Bool) (bound s row col : ℕ) → i.times.early ≤ i.times.edge → i.times.late ≤ i.times.edge → bound ≤ p.arrive - i.times.edge →
    (nat_lt s bound && in_cells i p fast (record { row = row; col = col; step = s })) ≡ false
none_before i p fast bound s row col early late low =
    never (nat_lt s bound && in_cells i p fast (record { row = row; col = col; step = s }))
    (λ h. let q = and_parts (nat_lt s bound) (in_cells i p fast (record { row = row; col = col; step = s })) h in
    let l = ltb-true s bound q.0 in
    let n = cells_near i p fast (record { row = row; col = col; step = s }) early late q.1 in
    let n0 = n.0 in omega arith)

pub spans_none : (i : Intersection) (p : Params) (fast : Bool) (bound : ℕ) → i.times.early ≤ i.times.edge → i.times.late ≤ i.times.edge → bound ≤ p.arrive - i.times.edge → spans_before i p fast bound ≡ 0
spans_none i p fast bound early late low = sum_none bound (rows_needed i p fast) (λ s l. rows_far i p fast s early late (λ b. let x = b.0 in omega arith))

-- after the last one there is no further
pub all_before : (i : Intersection) (p : Params) (fast : Bool) (bound : ℕ) (c : Cell) → i.times.early ≤ i.times.edge → i.times.late ≤ i.times.edge → p.arrive + crossing_steps i p fast + i.times.edge ≤ bound →
    (nat_lt c.step bound && in_cells i p fast c) ≡ in_cells i p fast c
all_before i p fast bound c early late high = alike _ _
    (λ h. (and_parts (nat_lt c.step bound) (in_cells i p fast c) h).1)
    (λ h. let n = cells_near i p fast c early late h in let n1 = n.1 in let t : nat_lt c.step bound ≡ true = lt-ltb c.step bound (omega arith) in rw (t, h) refl)

pub spans_all : (i : Intersection) (p : Params) (fast : Bool) (bound : ℕ) → i.times.early ≤ i.times.edge → i.times.late ≤ i.times.edge → p.arrive + crossing_steps i p fast + i.times.edge ≤ bound →
    spans_before i p fast bound ≡ span_count i p fast
spans_all i p fast bound early late high =
    sum_rest (p.arrive + crossing_steps i p fast + i.times.edge) bound (rows_needed i p fast) high (λ s l m. rows_far i p fast s early late (λ b. let x = b.1 in omega arith))
    ∙ sym (span_count_is i p fast early late)

-- the spans of some steps and of the next one
pub spans_more : (i : Intersection) (p : Params) (fast : Bool) (s : ℕ) → spans_before i p fast (s + 1) ≡ spans_before i p fast s + rows_needed i p fast s
spans_more i p fast s = sum_more s (rows_needed i p fast)

pub spans_most : (i : Intersection) (p : Params) (fast : Bool) (bound : ℕ) → i.times.early ≤ i.times.edge → i.times.late ≤ i.times.edge → bound ≤ p.arrive + crossing_steps i p fast + i.times.edge →
    spans_before i p fast bound ≤ span_count i p fast
spans_most i p fast bound early late high =
    let e = span_count_is i p fast early late in
    let r = sum_rises bound (p.arrive + crossing_steps i p fast + i.times.edge) (rows_needed i p fast) high in omega arith

-- a crossing has a step
pub some_steps : (i : Intersection) (p : Params) (fast : Bool) → 0 < p.speed → p.speed ≤ p.max_speed → 0 < crossing_steps i p fast
some_steps i p fast a b = elim (dec_lt 0 (crossing_steps i p fast)) [
  | yes l ↦ l
  | no n ↦ absurd (
      let z : crossing_steps i p fast ≡ 0 = omega arith in
      let past = ltb-true (path_length i p + p.length) (front p fast (crossing_steps i p fast)) (crossing_steps-least i p fast a b).passes in
      let t : path_length i p + p.length < front p fast 0 = rw z at past in
      let e = front_zero p fast in omega arith)
]
