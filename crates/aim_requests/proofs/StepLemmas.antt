-- A step's tiles in the windows are the cells that the trial needs in it.
use Rattle.std.proofs.Common.{◌≡◌, ℕ, ◌+◌, ◌-◌, ◌*◌, ◌<◌, ◌≤◌, Bool, true, false, ◌&&◌, ◌||◌, List, length, min, arith, refl, nat_le, nat_lt, ◌∙◌, sym, inl, inr, ◌⊎◌, if◌then◌else◌, lt-ltb, le-ltb, eqb, eq-eqb}
use Rattle.std.specs.Prelude.{replicate}
use Rattle.std.proofs.Math.Decide.{dec_lt}
use Rattle.std.proofs.lemmas.Bool.{and_parts, leb-true, le-leb, lt-leb, cases_eq, ne_eqb, ltb-true}
use Rattle.aim_messages.specs.declared.messages.Params.{Params}
use Rattle.aim_geometry.specs.declared.ground.Times.{Times}
use Rattle.aim_geometry.specs.declared.tiles.TileRect.{TileRect}
use Rattle.aim_geometry.specs.Ground.{is_edge}
use Rattle.aim_geometry.specs.Rects.{tile_at}
use Rattle.aim_geometry.proofs.BoundedLemmas.{some_below_found}
use Rattle.aim_layout.specs.Intersection.{Intersection}
use Rattle.aim_rules.specs.Footprint.{crossing_steps, in_footprint}
use Rattle.aim_rules.specs.Cells.{in_cells, is_buffered}
use Rattle.aim_rules.proofs.CellLemmas.{cells_inside as cells_on_grid, kept_within}
use Rattle.aim_footprint.specs.declared.reaches.Reach.{Reach}
use Rattle.aim_footprint.specs.declared.windows.TileWindow.{TileWindow}
use Rattle.aim_footprint.specs.Windows.{is_under}
use Rattle.aim_footprint.specs.Reaches.{AreReaches}
use Rattle.aim_footprint.proofs.UnderLemmas.{empty_at}
use Rattle.aim_footprint.proofs.Unions.{alike, union_at}
use Rattle.aim_footprint.proofs.Footprints.{reached_footprint}
use Rattle.aim_requests.specs.Counts.{count_below, needs_row, rows_needed}
use Rattle.aim_requests.specs.Moves.{IsMoved, IsTrial}
use Rattle.aim_requests.specs.Rows.{has_shown, in_rows_of, is_shown}
use Rattle.aim_requests.proofs.CountLemmas.{count_alike, count_rest, some_alike, some_rest}
use Rattle.aim_requests.proofs.WindowLemmas.{cells_border, cells_inside, cells_none}

-- the rows have the cells of the step, all of them from a first to a last row
pub record IsStep (i : Intersection) (p : Params) (fast : Bool) (step first last n : ℕ) (inner outer : List ℕ) : Type 0 where
  pub few : i.grid.n ≤ 64
  pub last_row : last < 64
  pub shown : (row col : ℕ) → row < 64 → col < 64 → is_shown n inner outer row col ≡ in_cells i p fast (record { row = row; col = col; step = step })
  pub within : (row col : ℕ) → in_cells i p fast (record { row = row; col = col; step = step }) ≡ true → (first ≤ row) × (row ≤ last)

either_fails : (a b c d : ℕ) → (nat_le a b && nat_le c d) ≡ false → (b < a) ⊎ (d < c)
either_fails a b c d h = elim (dec_lt b a) [
  | yes l ↦ inl l
  | no l ↦ elim (dec_lt d c) [
    | yes m ↦ inr m
    | no m ↦ absurd (let x : nat_le a b ≡ true = le-leb a b (omega arith) in let y : nat_le c d ≡ true = le-leb c d (omega arith) in let z : (true && true) ≡ false = rw (x, y) at h in cc)
  ]
]

-- a cell that the trial needs is in the wide window
under_outer : (i : Intersection) (p : Params) (fast : Bool) (rects : List TileRect) (reaches : List Reach) (outer : TileWindow) (s t row col : ℕ) → IsTrial i p fast rects reaches →
    s + i.times.edge ≡ p.arrive + t → t < length reaches + 2 * i.times.edge → IsMoved rects reaches outer (t - (i.times.edge + i.times.edge)) (min (t + i.times.edge - i.times.edge) (length reaches - 1)) →
    in_cells i p fast (record { row = row; col = col; step = s }) ≡ true → is_under rects outer.low outer.next row col ≡ true
under_outer i p fast rects reaches outer s t row col r e few m h =
    let count = r.reach.count in
    let some = r.some_steps in
    let same = r.round.count in
    let order : AreReaches (length rects) reaches = rw (← same) at r.reach.order in
    let f = some_below_found (crossing_steps i p fast) (λ k. is_buffered i row col (p.arrive + k) s && in_footprint i p fast i.grid.fixed k row col) h in
    let k = f.0 in
    let l = f.1 in
    let b = and_parts (is_buffered i row col (p.arrive + k) s) (in_footprint i p fast i.grid.fixed k row col) f.2 in
    let w = kept_within i row col (p.arrive + k) s r.times.early r.times.late b.0 in
    let w0 = w.0 in let w1 = w.1 in
    let reached = reached_footprint i p fast i.grid.fixed rects reaches k row col r.round r.reach r.some (omega arith) ∙ b.1 in
    rw (m.first, m.past)
    (union_at rects reaches (t - (i.times.edge + i.times.edge)) (min (t + i.times.edge - i.times.edge) (length reaches - 1)) k row col order (omega arith) (omega arith) (omega arith) reached)

pub is_step : (i : Intersection) (p : Params) (fast : Bool) (rects : List TileRect) (reaches : List Reach) (outer inner : TileWindow) (rows : List ℕ) (near : Bool) (s t first last n : ℕ) → IsTrial i p fast rects reaches →
    n ≡ i.grid.n → last < 64 → s + i.times.edge ≡ p.arrive + t → t < length reaches + 2 * i.times.edge →
    IsMoved rects reaches outer (t - (i.times.edge + i.times.edge)) (min (t + i.times.edge - i.times.edge) (length reaches - 1)) →
    near ≡ (nat_le i.times.edge (t + i.times.early) && nat_le t (length reaches - 1 + i.times.edge + i.times.late)) →
    (near ≡ true → IsMoved rects reaches inner (t - (i.times.edge + i.times.late)) (min (t + i.times.early - i.times.edge) (length reaches - 1))) →
    rows ≡ (if near then inner.rows else replicate 64 0) →
    ((row col : ℕ) → row < 64 → is_under rects outer.low outer.next row col ≡ true → (first ≤ row) × (row ≤ last)) →
    IsStep i p fast s first last n rows outer.rows
is_step i p fast rects reaches outer inner rows near s t first last n r side short e few moved is_near moved_inner shown hull = record {
  few = r.grid.rows;
  last_row = short;
  shown = λ row col rl cl. rw side (tile row col rl cl (is_edge i.grid row col) refl);
  within = λ row col h. let g = cells_on_grid i p fast (record { row = row; col = col; step = s }) h in
      hull row col (let x = g.0 in let y = r.grid.rows in omega arith) (under_outer i p fast rects reaches outer s t row col r e few moved h);
}
  where
    border : (row col : ℕ) → row < 64 → col < 64 → is_edge i.grid row col ≡ true → tile_at outer.rows row col ≡ in_cells i p fast (record { row = row; col = col; step = s })
    border row col rl cl edge = moved.window.shows row col rl cl ∙ rw (moved.first, moved.past) (sym (cells_border i p fast rects reaches s t row col r e few edge))

    inside : (row col : ℕ) → row < 64 → col < 64 → is_edge i.grid row col ≡ false → (b : Bool) → near ≡ b → tile_at rows row col ≡ in_cells i p fast (record { row = row; col = col; step = s })
    inside row col rl cl edge true b =
        let m = moved_inner b in
        let q = and_parts (nat_le i.times.edge (t + i.times.early)) (nat_le t (length reaches - 1 + i.times.edge + i.times.late)) (sym is_near ∙ b) in
        rw (shown, b) (m.window.shows row col rl cl ∙ rw (m.first, m.past) (sym (cells_inside i p fast rects reaches s t row col r e (leb-true _ _ q.0) (leb-true _ _ q.1) edge)))
    inside row col rl cl edge false b =
        rw (shown, b) (empty_at row col rl ∙ sym (cells_none i p fast rects reaches s t row col r e (either_fails i.times.edge (t + i.times.early) t (length reaches - 1 + i.times.edge + i.times.late) (sym is_near ∙ b)) edge))

    tile : (row col : ℕ) → row < 64 → col < 64 → (b : Bool) → is_edge i.grid row col ≡ b → is_shown i.grid.n rows outer.rows row col ≡ in_cells i p fast (record { row = row; col = col; step = s })
    tile row col rl cl true edge = let a : is_shown i.grid.n rows outer.rows row col ≡ tile_at outer.rows row col = rw edge refl in a ∙ border row col rl cl edge
    tile row col rl cl false edge = let a : is_shown i.grid.n rows outer.rows row col ≡ tile_at rows row col = rw edge refl in a ∙ inside row col rl cl edge near refl

-- in the step the spans' cells are those that the trial needs
in_step : (i : Intersection) (p : Params) (fast : Bool) (step first last n : ℕ) (inner outer : List ℕ) (row col : ℕ) → IsStep i p fast step first last n inner outer →
    ((nat_le first row && nat_lt row (last + 1)) && (nat_lt col 64 && is_shown n inner outer row col)) ≡ in_cells i p fast (record { row = row; col = col; step = step })
in_step i p fast step first last n inner outer row col st = alike _ _
    (λ h. let a = and_parts (nat_le first row && nat_lt row (last + 1)) (nat_lt col 64 && is_shown n inner outer row col) h in
    let b = and_parts (nat_le first row) (nat_lt row (last + 1)) a.0 in
    let d = and_parts (nat_lt col 64) (is_shown n inner outer row col) a.1 in
    let below = ltb-true row (last + 1) b.1 in
    let short = st.last_row in
    sym (st.shown row col (omega arith) (ltb-true col 64 d.0)) ∙ d.1)
    (λ h. let g = cells_on_grid i p fast (record { row = row; col = col; step = step }) h in
    let g0 = g.0 in let g1 = g.1 in let few = st.few in
    let w = st.within row col h in
    let w0 = w.0 in let w1 = w.1 in
    rw (le-leb first row w0, lt-ltb row (last + 1) (omega arith), lt-ltb col 64 (omega arith)) (st.shown row col (omega arith) (omega arith) ∙ h))

-- a step more has the cells of one step more
pub step_cells : (i : Intersection) (p : Params) (fast : Bool) (step first last n : ℕ) (inner outer : List ℕ) (s row col : ℕ) → IsStep i p fast step first last n inner outer →
    ((nat_lt s step && in_cells i p fast (record { row = row; col = col; step = s })) || in_rows_of n inner outer step first (last + 1) s row col) ≡ (nat_lt s (step + 1) && in_cells i p fast (record { row = row; col = col; step = s }))
step_cells i p fast step first last n inner outer s row col st = elim (cases_eq s step) [
  | inl e ↦ (
      let a : nat_lt s step ≡ false = le-ltb s step (omega arith) in
      let b : eqb step s ≡ true = eq-eqb step s (sym e) in
      let d : nat_lt s (step + 1) ≡ true = lt-ltb s (step + 1) (omega arith) in
      rw (a, b, d) (rw (← e) at (in_step i p fast step first last n inner outer row col st)))
  | inr m ↦ (
      let b : eqb step s ≡ false = ne_eqb step s (λ e. m (sym e)) in
      let d : nat_lt s (step + 1) ≡ nat_lt s step = lt_more s step m in
      rw (b, d) (or_false (nat_lt s step && in_cells i p fast (record { row = row; col = col; step = s }))))
]
  where
    or_false : (b : Bool) → (b || false) ≡ b
    or_false true = refl
    or_false false = refl

    lt_more : (r k : ℕ) → (r ≡ k → ⊥) → nat_lt r (k + 1) ≡ nat_lt r k
    lt_more r k n = elim (dec_lt r k) [
      | yes l ↦ rw (lt-ltb r (k + 1) (omega arith), lt-ltb r k l) refl
      | no l ↦ rw (le-ltb r (k + 1) (omega arith), le-ltb r k (omega arith)) refl
    ]

never : (b : Bool) → (b ≡ true → ⊥) → b ≡ false
never true h = absurd (h refl)
never false h = refl

-- and as many spans as the step has rows with a cell
pub step_count : (i : Intersection) (p : Params) (fast : Bool) (step first last n : ℕ) (inner outer : List ℕ) → IsStep i p fast step first last n inner outer →
    count_below (last + 1) (has_shown n inner outer first) ≡ rows_needed i p fast step
step_count i p fast step first last n inner outer st =
    let short = st.last_row in
    let few = st.few in
    count_alike (last + 1) (has_shown n inner outer first) (needs_row i p fast step) (λ row l. same row (omega arith))
    ∙ sym (count_rest (last + 1) 64 (needs_row i p fast step) (omega arith) (λ row a b. never (needs_row i p fast step row) (λ h. let f = some_below_found i.grid.n (λ col. in_cells i p fast (record { row = row; col = col; step = step })) h in let w = st.within row f.0 f.2 in let w1 = w.1 in omega arith)))
    ∙ count_rest i.grid.n 64 (needs_row i p fast step) few (λ row a b. never (needs_row i p fast step row) (λ h. let f = some_below_found i.grid.n (λ col. in_cells i p fast (record { row = row; col = col; step = step })) h in let g = cells_on_grid i p fast (record { row = row; col = f.0; step = step }) f.2 in let g0 = g.0 in omega arith))
  where
    same : (row : ℕ) → row < 64 → has_shown n inner outer first row ≡ needs_row i p fast step row
    same row l = elim (dec_lt row first) [
      | no a ↦ (let f : nat_le first row ≡ true = le-leb first row (omega arith) in rw f
          (some_alike 64 (is_shown n inner outer row) (λ col. in_cells i p fast (record { row = row; col = col; step = step })) (λ col cl. st.shown row col l cl)
          ∙ some_rest i.grid.n 64 (λ col. in_cells i p fast (record { row = row; col = col; step = step })) st.few (λ col a b. never (in_cells i p fast (record { row = row; col = col; step = step })) (λ h. let g = cells_on_grid i p fast (record { row = row; col = col; step = step }) h in let g1 = g.1 in omega arith))))
      | yes a ↦ (let f : nat_le first row ≡ false = lt-leb first row a in
          rw f (sym (never (needs_row i p fast step row) (λ h. let g = some_below_found i.grid.n (λ col. in_cells i p fast (record { row = row; col = col; step = step })) h in let w = st.within row g.0 g.2 in let w0 = w.0 in omega arith))))
    ]

-- what a loop over t has shown is a step of the crossing, with the times as they were read
pub is_step_at : (i : Intersection) (p : Params) (fast : Bool) (rects : List TileRect) (reaches : List Reach) (outer inner : TileWindow) (rows : List ℕ) (near : Bool) (t first last n : ℕ) (times : Times) → IsTrial i p fast rects reaches →
    times ≡ i.times → n ≡ i.grid.n → last < 64 → times.edge ≤ p.arrive + t → t < length reaches + 2 * times.edge →
    IsMoved rects reaches outer (t - (times.edge + times.edge)) (min (t + times.edge - times.edge) (length reaches - 1)) →
    near ≡ (nat_le times.edge (t + times.early) && nat_le t (length reaches - 1 + times.edge + times.late)) →
    (near ≡ true → IsMoved rects reaches inner (t - (times.edge + times.late)) (min (t + times.early - times.edge) (length reaches - 1))) →
    rows ≡ (if near then inner.rows else replicate 64 0) →
    ((row col : ℕ) → row < 64 → is_under rects outer.low outer.next row col ≡ true → (first ≤ row) × (row ≤ last)) →
    IsStep i p fast (p.arrive + t - times.edge) first last n rows outer.rows
is_step_at i p fast rects reaches outer inner rows near t first last n times r te side short start few moved is_near moved_inner shown hull =
    rw te
    (is_step i p fast rects reaches outer inner rows near (p.arrive + t - i.times.edge) t first last n r side short (let s : i.times.edge ≤ p.arrive + t = rw te at start in omega arith) (rw te at few) (rw te at moved) (rw te at is_near) (rw te at moved_inner) shown hull)
