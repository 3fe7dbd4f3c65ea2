-- The cells of a crossing move with its arrival.
use Rattle.std.proofs.Common.{◌≡◌, ◌≢◌, ℕ, zero, suc, ◌+◌, ◌-◌, ◌*◌, ◌/◌, ◌%◌, ◌^◌, ◌<◌, ◌≤◌, Bool, true, false, ◌&&◌, ◌||◌, List, [], ◌∷◌, length, length-append, map, filter, get_or, arith, refl, sym, ◌∙◌, ap, nat_le, if◌then◌else◌, None}
use Rattle.std.specs.Prelude.{flat_map, ◌==◌}
use Rattle.std.specs.List.{range_with_len}
use Rattle.std.proofs.Math.Decide.{dec_lt}
use Rattle.std.proofs.Math.Nat.{pow-suc}
use Rattle.std.proofs.lemmas.Bool.{and_parts, and_from, leb-true, le-leb, eqb-true, eq-eqb}
use Rattle.std.proofs.lemmas.Nat.{leading_top, le-div, div_below, pow_pos}
use Rattle.std.proofs.lemmas.List.Elements.{filter-append, All-tail}
use Rattle.std.proofs.lemmas.List.Folds.{list_any_at}
use Rattle.aim_messages.specs.declared.messages.Params.{Params}
use Rattle.aim_messages.specs.declared.entries.TheConstants.{LATEST_MOMENT}
use Rattle.aim_geometry.specs.Bounded.{some_below}
use Rattle.aim_geometry.specs.Cells.{Cell, cell_at}
use Rattle.aim_geometry.specs.Ground.{is_edge}
use Rattle.aim_geometry.specs.Rects.{has_bit}
use Rattle.aim_layout.specs.Intersection.{Intersection}
use Rattle.aim_sheets.specs.declared.spans.Span.{Span}
use Rattle.aim_sheets.specs.Moves.{MayMove, moved}
use Rattle.aim_sheets.specs.Spans.{AreMarked, in_span, in_spans}
use Rattle.aim_rules.specs.Footprint.{crossing_steps, in_footprint}
use Rattle.aim_rules.specs.Cells.{in_cells, is_buffered}
use Rattle.aim_rules.specs.Bad.{bad, has_bad_window, span_count}
use Rattle.aim_rules.specs.Trials.{judged}
use Rattle.aim_rules.proofs.GoodLemmas.{good_params, good_window, no_field}
use Rattle.aim_footprint.proofs.Unions.{alike}
use Rattle.aim_requests.specs.Cells.{HaveCells}
use Rattle.aim_requests.specs.Shapes.{arriving}
use Rattle.aim_requests.proofs.CountLemmas.{count_alike, some_alike}
use Rattle.aim_requests.proofs.SpanLemmas.{cells_near, rows_counted}

same_le : (a b c d : ℕ) → (a ≤ b → c ≤ d) → (c ≤ d → a ≤ b) → nat_le a b ≡ nat_le c d
same_le a b c d f g = alike (nat_le a b) (nat_le c d) (λ h. le-leb c d (f (leb-true a b h))) (λ h. le-leb a b (g (leb-true c d h)))

-- what lies within a buffer of a step does so where both are later by as much
buffered_moved : (i : Intersection) (row col at s at2 s2 : ℕ) → s2 + at ≡ s + at2 → is_buffered i row col at2 s2 ≡ is_buffered i row col at s
buffered_moved i row col at s at2 s2 e =
    let edge = i.times.edge in
    let early = i.times.early in
    let late = i.times.late in
    let a = same_le at2 (s2 + edge) at (s + edge) (λ h. omega arith) (λ h. omega arith) in
    let b = same_le s2 (at2 + edge) s (at + edge) (λ h. omega arith) (λ h. omega arith) in
    let c = same_le at2 (s2 + early) at (s + early) (λ h. omega arith) (λ h. omega arith) in
    let d = same_le s2 (at2 + late) s (at + late) (λ h. omega arith) (λ h. omega arith) in
    ap (λ x. if is_edge i.grid row col then x else (nat_le at2 (s2 + early) && nat_le s2 (at2 + late))) (rw (a, b) refl)
    ∙ ap (λ x. if is_edge i.grid row col then (nat_le at (s + edge) && nat_le s (at + edge)) else x) (rw (c, d) refl)

-- The cells of a crossing move with its arrival.
pub cells_moved : (i : Intersection) (p : Params) (fast : Bool) (to latest s s2 row col : ℕ) → s2 + p.arrive ≡ s + to →
    in_cells i (arriving p to latest) fast (cell_at s2 row col) ≡ in_cells i p fast (cell_at s row col)
cells_moved i p fast to latest s s2 row col e =
    some_alike (crossing_steps i p fast) (λ k. is_buffered i row col (to + k) s2 && in_footprint i p fast i.grid.fixed k row col)
    (λ k. is_buffered i row col (p.arrive + k) s && in_footprint i p fast i.grid.fixed k row col)
    (λ k l. ap (λ x. x && in_footprint i p fast i.grid.fixed k row col) (buffered_moved i row col (p.arrive + k) s (to + k) s2 (omega arith)))

never : (b : Bool) → (b ≡ true → ⊥) → b ≡ false
never true h = absurd (h refl)
never false h = refl

-- the step of a span that has moved
step_moved : (from to x s : ℕ) → from ≤ x → (x - from + to == s) ≡ (nat_le to s && x == s - to + from)
step_moved from to x s le = alike (x - from + to == s) (nat_le to s && x == s - to + from)
    (λ h. let e : x - from + to ≡ s = eqb-true (x - from + to) s h in
    and_from (nat_le to s) (x == s - to + from) (le-leb to s (omega arith)) (eq-eqb x (s - to + from) (omega arith)))
    (λ h. let q = and_parts (nat_le to s) (x == s - to + from) h in
    let a = leb-true to s q.0 in
    let b = eqb-true x (s - to + from) q.1 in
    eq-eqb (x - from + to) s (omega arith))

regroup : (a b c d : Bool) → (((a && b) && c) && d) ≡ (a && ((b && c) && d))
regroup true b c d = refl
regroup false b c d = refl

share : (a b c : Bool) → ((a && b) || (a && c)) ≡ (a && (b || c))
share true b c = refl
share false b c = refl

span_moved : (from to : ℕ) (x : Span) (c : Cell) → from ≤ x.step → in_span (moved from to x) c ≡ (nat_le to c.step && in_span x (cell_at (c.step - to + from) c.row c.col))
span_moved from to x c le =
    ap (λ b. (b && x.row == c.row) && has_bit x.mask c.col) (step_moved from to x.step c.step le)
    ∙ regroup (nat_le to c.step) (x.step == c.step - to + from) (x.row == c.row) (has_bit x.mask c.col)

-- the cells of spans that have moved
pub spans_moved : (from to : ℕ) (xs : List Span) (c : Cell) → MayMove from to xs →
    in_spans (map (moved from to) xs) c ≡ (nat_le to c.step && in_spans xs (cell_at (c.step - to + from) c.row c.col))
spans_moved from to [] c may = none (nat_le to c.step)
  where
    none : (b : Bool) → false ≡ (b && false)
    none true = refl
    none false = refl
spans_moved from to (x ∷ xs) c may =
    let le = (may zero x (omega arith)).0 in
    ap (λ b. b || in_spans (map (moved from to) xs) c) (span_moved from to x c le)
    ∙ ap (λ b. (nat_le to c.step && in_span x (cell_at (c.step - to + from) c.row c.col)) || b) (spans_moved from to xs c (All-tail (λ s. (from ≤ s.step) × (s.step - from + to < 2 ^ 32)) x xs may))
    ∙ share (nat_le to c.step) (in_span x (cell_at (c.step - to + from) c.row c.col)) (in_spans xs (cell_at (c.step - to + from) c.row c.col))

-- What has the cells of a trial has those of the trial with another arrival, where it has moved.
pub have_moved : (i : Intersection) (p : Params) (fast : Bool) (to latest : ℕ) (xs : List Span) → i.times.early ≤ i.times.edge → i.times.late ≤ i.times.edge →
    i.times.edge ≤ p.arrive → i.times.edge ≤ to → MayMove (p.arrive - i.times.edge) (to - i.times.edge) xs → HaveCells i p fast xs →
    HaveCells i (arriving p to latest) fast (map (moved (p.arrive - i.times.edge) (to - i.times.edge)) xs)
have_moved i p fast to latest xs early late a b may have c =
    let from = p.arrive - i.times.edge in
    let next = to - i.times.edge in
    spans_moved from next xs c may ∙ elim (dec_lt c.step next) [
      | yes below ↦ (
          let z : nat_le next c.step ≡ false = never (nat_le next c.step) (λ h. let l = leb-true next c.step h in omega arith) in
          let n : in_cells i (arriving p to latest) fast c ≡ false = never (in_cells i (arriving p to latest) fast c) (λ h. let w = (cells_near i (arriving p to latest) fast c early late h).0 in omega arith) in
          rw (z, n) refl)
      | no above ↦ (
          let t : nat_le next c.step ≡ true = le-leb next c.step (omega arith) in
          let m = cells_moved i p fast to latest (c.step - next + from) c.step c.row c.col (omega arith) in
          rw t (have (cell_at (c.step - next + from) c.row c.col) ∙ sym m))
    ]

-- the spans of rows in neighbouring steps are as many, where those of each step are
counted : (q q2 : Cell → Bool) (rows rows2 : ℕ → List Cell) (a a2 n : ℕ) → ((j : ℕ) → length (filter q (rows (a + j))) ≡ length (filter q2 (rows2 (a2 + j)))) →
    length (filter q (flat_map rows (range_with_len a n))) ≡ length (filter q2 (flat_map rows2 (range_with_len a2 n)))
counted q q2 rows rows2 a a2 zero each = refl
counted q q2 rows rows2 a a2 (suc n) each =
    let one : length (filter q (rows a)) ≡ length (filter q2 (rows2 a2)) =
    let z : a + 0 ≡ a = omega arith in let y : a2 + 0 ≡ a2 = omega arith in rw (z, y) at (each 0) in
    let rest = counted q q2 rows rows2 (a + 1) (a2 + 1) n (λ j. let u : a + 1 + j ≡ a + (j + 1) = omega arith in let w : a2 + 1 + j ≡ a2 + (j + 1) = omega arith in rw (u, w) (each (j + 1))) in
    let x : length (filter q (rows a)) + length (filter q (flat_map rows (range_with_len (a + 1) n))) ≡ length (filter q2 (rows2 a2)) + length (filter q2 (flat_map rows2 (range_with_len (a2 + 1) n))) = omega arith in
    ap length (filter-append q (rows a) (flat_map rows (range_with_len (a + 1) n)))
    ∙ length-append (filter q (rows a)) (filter q (flat_map rows (range_with_len (a + 1) n)))
    ∙ x
    ∙ sym (length-append (filter q2 (rows2 a2)) (filter q2 (flat_map rows2 (range_with_len (a2 + 1) n))))
    ∙ sym (ap length (filter-append q2 (rows2 a2) (flat_map rows2 (range_with_len (a2 + 1) n))))

-- The number of a trial's spans does not change with the arrival.
pub count_moved : (i : Intersection) (p : Params) (fast : Bool) (to latest : ℕ) → i.times.edge ≤ p.arrive → i.times.edge ≤ to → span_count i (arriving p to latest) fast ≡ span_count i p fast
count_moved i p fast to latest a b =
    let rows = λ (s : ℕ). map (λ (r : ℕ). let c : Cell = record { row = r; col = 0; step = s } in c) (range_with_len 0 i.grid.n) in
    let q = λ (c : Cell). some_below i.grid.n (λ col. in_cells i p fast (record c { col = col })) in
    let q2 = λ (c : Cell). some_below i.grid.n (λ col. in_cells i (arriving p to latest) fast (record c { col = col })) in
    counted q2 q rows rows (to - i.times.edge) (p.arrive - i.times.edge) (crossing_steps i p fast + 2 * i.times.edge)
    (λ j. rows_counted q2 (to - i.times.edge + j) i.grid.n
    ∙ count_alike i.grid.n (λ r. q2 (record { row = r; col = 0; step = to - i.times.edge + j })) (λ r. q (record { row = r; col = 0; step = p.arrive - i.times.edge + j }))
    (λ r l. some_alike i.grid.n (λ col. in_cells i (arriving p to latest) fast (record { row = r; col = col; step = to - i.times.edge + j })) (λ col. in_cells i p fast (record { row = r; col = col; step = p.arrive - i.times.edge + j }))
    (λ col m. cells_moved i p fast to latest (p.arrive - i.times.edge + j) (to - i.times.edge + j) r col (omega arith)))
    ∙ sym (rows_counted q (p.arrive - i.times.edge + j) i.grid.n))

-- A crossing of which no field is wrong has none where it arrives at another step, in a window that isn't bad.
pub good_moved : (i : Intersection) (p : Params) (to latest : ℕ) → i.times.edge ≤ p.arrive → i.times.edge ≤ to → to ≤ LATEST_MOMENT → has_bad_window i (arriving p to latest) ≡ false → bad i p ≡ None → bad i (arriving p to latest) ≡ None
good_moved i p to latest a b c w good =
    let g = good_params i p good in
    no_field i (arriving p to latest) (record {
      lane = g.lane;
      turn = g.turn;
      arrive = c;
      window = good_window i (arriving p to latest) w;
      greatest = g.greatest;
      speed = g.speed;
      accel = g.accel;
      length = g.length;
      width = g.width;
      steps = g.steps;
      judged = rw (count_moved i p (judged i p).fast to latest a b) g.judged;
      fast = λ one made. rw (count_moved i p true to latest a b) (g.fast one made);
    })

below_power : (n : ℕ) → n < 2 ^ n
below_power zero = omega arith
below_power (suc n) = omega (arith, below_power n, pow-suc 2 n)

one_bit : (a j : ℕ) → 2 ^ j ≤ a → a < 2 ^ suc j → has_bit a j ≡ true
one_bit a j low high =
    let one : 1 ≤ a / 2 ^ j = le-div 1 a (2 ^ j) (pow_pos j) (omega (arith, low)) in
    let two : a / 2 ^ j < 2 = div_below a (2 ^ j) 2 (pow_pos j) (omega (arith, high, pow-suc 2 j)) in
    let e : a / 2 ^ j ≡ 1 = omega (arith, one, two) in
    eq-eqb (a / 2 ^ j % 2) 1 (ap (λ x. x % 2) e)

-- a mask that is not 0 has a column
some_column : (mask : ℕ) → mask ≢ 0 → (c : ℕ) × (has_bit mask c ≡ true)
some_column mask some =
    let top = leading_top mask mask (omega (arith, some)) (below_power mask) in
    (top.0, one_bit mask top.0 top.2 top.3)

-- the cell of a span
in_own : (x : Span) (col : ℕ) → has_bit x.mask col ≡ true → in_span x (cell_at x.step x.row col) ≡ true
in_own x col h = let a : (x.step == x.step) ≡ true = eq-eqb x.step x.step refl in let b : (x.row == x.row) ≡ true = eq-eqb x.row x.row refl in rw (a, b, h) refl

-- The spans of a trial may move to another arrival.
pub may_move : (i : Intersection) (p : Params) (fast : Bool) (to : ℕ) (xs : List Span) → i.times.early ≤ i.times.edge → i.times.late ≤ i.times.edge → i.times.edge ≤ 1024 →
    crossing_steps i p fast ≤ 2048 → i.times.edge ≤ p.arrive → i.times.edge ≤ to → to ≤ 1073741824 → HaveCells i p fast xs → AreMarked xs →
    MayMove (p.arrive - i.times.edge) (to - i.times.edge) xs
may_move i p fast to xs early late near few a b c have marked k d l =
    let x = get_or xs k d in
    let col = some_column x.mask (marked k d l) in
    let inside = list_any_at (λ span. in_span span (cell_at x.step x.row col.0)) xs k d l (in_own x col.0 col.1) in
    let needed : in_cells i p fast (cell_at x.step x.row col.0) ≡ true = sym (have (cell_at x.step x.row col.0)) ∙ inside in
    let w = cells_near i p fast (cell_at x.step x.row col.0) early late needed in
    let w0 = w.0 in let w1 = w.1 in
    (omega arith, omega arith)
