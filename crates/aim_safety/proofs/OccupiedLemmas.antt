-- The tiles on which a driver is are cells that it was granted.
use Rattle.aim_driver.specs.Crossings.{first_entrance}
use Rattle.std.proofs.Common.{◌<◌, ◌≡◌, ℕ, ◌+◌, ◌-◌, ◌*◌, ◌≤◌, Bool, true, false, ◌&&◌, ◌||◌, nat_lt, nat_le, List, [], ◌∷◌, Option, Some, None, is_none, arith, refl, sym, ap, slice_get}
use Rattle.std.specs.Prelude.{◌==◌, if◌then◌else◌, option_map}
use Rattle.std.specs.List.{list_any}
use Rattle.aim_messages.specs.declared.messages.Params.{Params}
use Rattle.aim_messages.specs.declared.entries.Entry.{Entry}
use Rattle.aim_geometry.specs.declared.ground.Grid.{Grid}
use Rattle.aim_geometry.specs.declared.stations.Station.{Station}
use Rattle.aim_geometry.specs.Bounded.{ceil_div}
use Rattle.aim_geometry.specs.Ground.{tile_of, meets, is_touched, is_edge}
use Rattle.aim_geometry.proofs.TouchLemmas.{any_touched_inside}
use Rattle.aim_geometry.proofs.BoundedLemmas.{some_below_at, some_below_found}
use Rattle.aim_layout.specs.Intersection.{Intersection}
use Rattle.aim_rules.specs.Footprint.{crossing_steps, covered, in_footprint}
use Rattle.aim_geometry.specs.Cells.{Cell}
use Rattle.aim_rules.specs.Cells.{is_buffered, in_cells}
use Rattle.aim_rules.specs.Bad.{bad}
use Rattle.aim_rules.specs.History.{is_confirm}
use Rattle.aim_rules.specs.Holds.{is_fast}
use Rattle.aim_rules.proofs.TestLemmas.{and_left, and_right, both, same_number, is_most, le_true}
use Rattle.aim_driver.specs.declared.logs.Entrance.{Entrance}
use Rattle.aim_driver.specs.declared.logs.LogItem.{LogItem}
use Rattle.aim_safety.specs.Occupied.{is_tried, Grant, Passage, params_in, grant_of, passage_from, passage, is_on}
use Rattle.aim_safety.proofs.PlaceLemmas.{some_same}

any_more : {X : Type 0} (p q : X → Bool) (xs : List X) → ((x : X) → p x ≡ true → q x ≡ true) → list_any p xs ≡ true → list_any q xs ≡ true
any_more p q [] f h = h
any_more p q (x ∷ xs) f h = go (p x) refl h (any_more p q xs f)
  where
    or_true : (b : Bool) → (b || true) ≡ true
    or_true true = refl
    or_true false = refl

    go : (b : Bool) → p x ≡ b → (b || list_any p xs) ≡ true → (list_any p xs ≡ true → list_any q xs ≡ true) → (q x || list_any q xs) ≡ true
    go true e h later = rw (f x e) refl
    go false e h later = rw (later h) (or_true (q x))

meets_more : (tile half wider i x : ℕ) → half ≤ wider → meets tile half i x ≡ true → meets tile wider i x ≡ true
meets_more tile half wider i x l h =
    let a = is_most (i * tile) (x + half) (and_left (nat_le (i * tile) (x + half)) (nat_le x ((i + 1) * tile + half)) h) in
    let b = is_most x ((i + 1) * tile + half) (and_right (nat_le (i * tile) (x + half)) (nat_le x ((i + 1) * tile + half)) h) in
    both (nat_le (i * tile) (x + wider)) (nat_le x ((i + 1) * tile + wider)) (le_true (i * tile) (x + wider) (omega arith)) (le_true x ((i + 1) * tile + wider) (omega arith))

touched_more : (g : Grid) (half wider row col : ℕ) (s : Station) → half ≤ wider → is_touched g half s row col ≡ true → is_touched g wider s row col ≡ true
touched_more g half wider row col s l h =
    let inside = nat_lt row g.n && nat_lt col g.n in
    let a = meets (tile_of g) half col s.x in
    let b = meets (tile_of g) half row s.y in
    let first = and_left (inside && a) b h in
    both (inside && meets (tile_of g) wider col s.x) (meets (tile_of g) wider row s.y)
    (both inside (meets (tile_of g) wider col s.x) (and_left inside a first) (meets_more (tile_of g) half wider col s.x l (and_right inside a first)))
    (meets_more (tile_of g) half wider row s.y l (and_right (inside && a) b h))

-- a wider square meets more tiles
footprint_more : (i : Intersection) (p : Params) (fast : Bool) (extra k row col : ℕ) → in_footprint i p fast 0 k row col ≡ true → in_footprint i p fast extra k row col ≡ true
footprint_more i p fast extra k row col h =
    any_more (λ s. is_touched i.grid (ceil_div p.width 2 + i.grid.spacing + 0) s row col) (λ s. is_touched i.grid (ceil_div p.width 2 + i.grid.spacing + extra) s row col) (covered i p fast k)
    (λ s t. touched_more i.grid (ceil_div p.width 2 + i.grid.spacing + 0) (ceil_div p.width 2 + i.grid.spacing + extra) row col s (omega arith) t) h

-- a tile is kept at each step in its window
buffered_at : (i : Intersection) (row col at s : ℕ) → i.times.early ≤ i.times.edge → i.times.late ≤ i.times.edge → at ≤ s + i.times.early → s ≤ at + i.times.late → is_buffered i row col at s ≡ true
buffered_at i row col at s before after l m = go (is_edge i.grid row col)
  where
    go : (e : Bool) → (if e then nat_le at (s + i.times.edge) && nat_le s (at + i.times.edge) else nat_le at (s + i.times.early) && nat_le s (at + i.times.late)) ≡ true
    go true = both (nat_le at (s + i.times.edge)) (nat_le s (at + i.times.edge)) (le_true at (s + i.times.edge) (omega arith)) (le_true s (at + i.times.edge) (omega arith))
    go false = both (nat_le at (s + i.times.early)) (nat_le s (at + i.times.late)) (le_true at (s + i.times.early) l) (le_true s (at + i.times.late) m)

-- where a cell lies on which a driver is that began in its window: it is needed, and no later than the last step
pub record Lies (i : Intersection) (p : Params) (fast : Bool) (step : ℕ) (c : Cell) : Type 0 where
  pub needed : in_cells i p fast c ≡ true
  pub by : c.step ≤ step + (crossing_steps i p fast - 1)

pub lies : (i : Intersection) (p : Params) (fast : Bool) (step : ℕ) (c : Cell) → i.times.early ≤ i.times.edge → i.times.late ≤ i.times.edge → p.arrive ≤ step + i.times.early → step ≤ p.arrive + i.times.late →
    is_on i (record { step = step; grant = record { params = p; fast = fast } }) c ≡ true → Lies i p fast step c
lies i p fast step c before after not_early not_late on =
    let f = some_below_found (crossing_steps i p fast) (λ k. c.step == step + k && in_footprint i p fast 0 k c.row c.col) on in
    let below = f.1 in
    let s = same_number c.step (step + f.0) (and_left (c.step == step + f.0) (in_footprint i p fast 0 f.0 c.row c.col) f.2) in
    let under = footprint_more i p fast i.grid.fixed f.0 c.row c.col (and_right (c.step == step + f.0) (in_footprint i p fast 0 f.0 c.row c.col) f.2) in
    record {
      needed = some_below_at (crossing_steps i p fast) (λ k. is_buffered i c.row c.col (p.arrive + k) c.step && in_footprint i p fast i.grid.fixed k c.row c.col) f.0 f.1
          (both (is_buffered i c.row c.col (p.arrive + f.0) c.step) (in_footprint i p fast i.grid.fixed f.0 c.row c.col) (buffered_at i c.row c.col (p.arrive + f.0) c.step before after (omega arith) (omega arith)) under);
      by = omega arith;
    }

-- a crossing begins where the driver entered, on what the entry of that id grants
pub passage_at : (i : Intersection) (h : List Entry) (log : List LogItem) (x : Passage) → passage i h log ≡ Some x →
    (t : Entrance) × (first_entrance log ≡ Some t) × (t.step ≡ x.step) × (grant_of i (slice_get h t.id) ≡ Some x.grant)
passage_at i h log x e = go (first_entrance log) refl e
  where
    granted : (t : Entrance) (o : Option Grant) → option_map (λ g. record { step = t.step; grant = g }) o ≡ Some x → (t.step ≡ x.step) × (o ≡ Some x.grant)
    granted t None e = absurd (cc)
    granted t (Some g) e =
        let same : record { step = t.step; grant = g } ≡ x = some_same (record { step = t.step; grant = g }) x e in
        (ap (λ x. x.step) same, ap (λ x. Some x.grant) same)

    go : (o : Option Entrance) → first_entrance log ≡ o → passage_from i h o ≡ Some x → (t : Entrance) × (first_entrance log ≡ Some t) × (t.step ≡ x.step) × (grant_of i (slice_get h t.id) ≡ Some x.grant)
    go None p e = absurd (cc)
    go (Some t) p e = let g = granted t (grant_of i (slice_get h t.id)) e in (t, p, g.0, g.1)

-- what the entry grants are its params and its trial
pub grant_is : (i : Intersection) (e : Entry) (p : Params) (g : Grant) → params_in e ≡ Some p → grant_of i (Some e) ≡ Some g → (g ≡ record { params = p; fast = is_fast e.reply })
grant_is i e p g asks h = go (is_confirm e.reply && (is_tried i p (is_fast e.reply) && is_none (bad i p))) (rw asks at h)
  where
    go : (b : Bool) → (if b then Some (record { params = p; fast = is_fast e.reply }) else None) ≡ Some g → g ≡ record { params = p; fast = is_fast e.reply }
    go true h = sym (some_same (record { params = p; fast = is_fast e.reply }) g h)
    go false h = absurd (cc)

-- a tile under the vehicle is one of the grid
pub inside_grid : (i : Intersection) (p : Params) (fast : Bool) (extra k row col : ℕ) → in_footprint i p fast extra k row col ≡ true → (row < i.grid.n) × (col < i.grid.n)
inside_grid i p fast extra k row col h = any_touched_inside i.grid (ceil_div p.width 2 + i.grid.spacing + extra) (covered i p fast k) row col h
