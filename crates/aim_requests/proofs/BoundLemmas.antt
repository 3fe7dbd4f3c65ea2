-- How many spans a crossing has at most, and how late its cells are.
use Rattle.std.proofs.Common.{◌≡◌, ℕ, zero, suc, ◌+◌, ◌*◌, ◌/◌, ◌<◌, ◌≤◌, Bool, true, false, ◌&&◌, ◌||◌, not, nat_le, List, map, length, refl, arith, le-ltb, length-append}
use Rattle.std.specs.Prelude.{◌-◌, flat_map}
use Rattle.std.specs.List.{list_any, range_with_len}
use Rattle.std.proofs.Math.Nat.{div-mul-le_self, mul-le-mul_left}
use Rattle.std.proofs.lemmas.Bool.{false_from_ne_true, leb-true}
use Rattle.std.proofs.lemmas.List.Filters.{length-filter_both}
use Rattle.std.proofs.lemmas.List.FromFn.{length-map-range_with_len}
use Rattle.aim_geometry.specs.Bounded.{some_below}
use Rattle.aim_geometry.specs.Cells.{Cell}
use Rattle.aim_messages.specs.declared.messages.Params.{Params}
use Rattle.aim_layout.specs.Intersection.{Intersection}
use Rattle.aim_rules.specs.Bad.{needs_too_many_spans, span_count}
use Rattle.aim_rules.specs.Trials.{has_windows, is_fast_made, judged}
use Rattle.aim_rules.specs.Cells.{cells, in_cells, steps_of}
use Rattle.aim_rules.specs.Footprint.{crossing_steps}
use Rattle.aim_rules.proofs.CellLemmas.{cells_needed}
use Rattle.aim_rules.proofs.Lists.{some_passes}
use Rattle.aim_footprint.proofs.FieldLemmas.{steps_fewer}
use Rattle.aim_requests.proofs.SpanLemmas.{cells_near}

-- a crossing has at most a span for each of its steps and each row
rows_many : (n : ℕ) (row : ℕ → List Cell) → ((s : ℕ) → length (row s) ≡ n) → (a k : ℕ) → length (flat_map row (range_with_len a k)) ≡ n * k
rows_many n row each a zero = omega arith
rows_many n row each a (suc k) =
    let l = length-append (row a) (flat_map row (range_with_len (a + 1) k)) in
    let e = each a in
    let r = rows_many n row each (a + 1) k in
    let m : n * suc k ≡ n + n * k = omega arith in
    omega arith

span_count_most : (i : Intersection) (p : Params) (fast : Bool) → span_count i p fast ≤ i.grid.n * (crossing_steps i p fast + 2 * i.times.edge)
span_count_most i p fast =
    let all = rows_many i.grid.n (λ s. map (λ r. record { row = r; col = 0; step = s }) (range_with_len 0 i.grid.n)) (λ s. length-map-range_with_len (λ r. record { row = r; col = 0; step = s }) 0 i.grid.n)
    (p.arrive - i.times.edge) (crossing_steps i p fast + 2 * i.times.edge) in
    let both = length-filter_both (λ (c : Cell). some_below i.grid.n (λ col. in_cells i p fast (record c { col = col }))) (λ (c : Cell). not (some_below i.grid.n (λ col. in_cells i p fast (record c { col = col })))) (λ c. refl)
    (flat_map (λ s. map (λ r. record { row = r; col = 0; step = s }) (range_with_len 0 i.grid.n)) (steps_of i p fast)) in
    omega arith

-- so a sheet that has room for that many has room for both trials
pub fits_sheet : (i : Intersection) (p : Params) (steps : ℕ) → 0 < p.speed → p.speed ≤ p.max_speed → steps ≡ crossing_steps i p false + 2 * i.times.edge → steps ≤ i.grid.spans / i.grid.n → needs_too_many_spans i p ≡ false
fits_sheet i p steps moves most is fits = go (not (has_windows i)) (is_fast_made p) (le-ltb _ _ (fit (judged i p).fast)) (le-ltb _ _ (fit true))
  where
    fit : (fast : Bool) → span_count i p fast ≤ i.grid.spans
    fit fast =
        let c = span_count_most i p fast in
        let f = steps_fewer i p fast moves most in
        let r : i.grid.n * (crossing_steps i p fast + 2 * i.times.edge) ≤ i.grid.n * (i.grid.spans / i.grid.n) = mul-le-mul_left i.grid.n (omega arith) in
        let w = div-mul-le_self i.grid.spans i.grid.n in
        omega arith

    go : (a b : Bool) {x y : Bool} → x ≡ false → y ≡ false → (x || (a && b && y)) ≡ false
    go true true e f = rw (e, f) refl
    go true false e f = rw e refl
    go false b e f = rw e refl

-- no cell is that late
pub none_far : (i : Intersection) (p : Params) (fast : Bool) (step : ℕ) → 0 < p.speed → p.speed ≤ p.max_speed → i.times.early ≤ i.times.edge → i.times.late ≤ i.times.edge → p.arrive + crossing_steps i p false + i.times.edge ≤ step → list_any (λ c. nat_le step c.step) (cells i p fast) ≡ false
none_far i p fast step moves most early late past =
    false_from_ne_true (list_any (λ c. nat_le step c.step) (cells i p fast)) (λ t. (
    let s = some_passes (λ c. nat_le step c.step) (cells i p fast) t in
    let l : step ≤ s.0.step = leb-true step s.0.step s.2 in
    let near = (cells_near i p fast s.0 early late (cells_needed i p fast s.0 s.1)).1 in
    let fewer = steps_fewer i p fast moves most in
    absurd (omega arith)))
