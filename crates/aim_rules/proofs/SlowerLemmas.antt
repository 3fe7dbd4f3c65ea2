-- A tile is needed in the steady trial as long as in the fast one.
use Rattle.std.proofs.Common.{◌≡◌, ℕ, zero, suc, ◌+◌, ◌-◌, ◌*◌, ◌/◌, ◌<◌, ◌≤◌, Bool, true, false, ◌&&◌, ◌||◌, nat_le, List, [], ◌∷◌, length, get_or, slice_range, None, arith, refl, if◌then◌else◌, min, length-take, length-drop, get_or-take, get_or-drop, add-one}
use Rattle.std.specs.List.{list_any}
use Rattle.std.proofs.lemmas.Nat.{le-div}
use Rattle.std.proofs.Math.Nat.{div-mul-le_self, mul-le-mul_right}
use Rattle.std.proofs.Math.Decide.{dec_lt}
use Rattle.aim_messages.specs.declared.messages.Params.{Params}
use Rattle.aim_geometry.specs.Bounded.{ceil_div}
use Rattle.aim_geometry.specs.declared.stations.Station.{Station}
use Rattle.aim_geometry.specs.Ground.{is_touched, is_edge}
use Rattle.aim_layout.specs.Intersection.{Intersection, stations}
use Rattle.aim_rules.specs.Motion.{front}
use Rattle.aim_rules.specs.Footprint.{path_length, crossing_steps, in_footprint}
use Rattle.aim_geometry.specs.Cells.{Cell}
use Rattle.aim_rules.specs.Cells.{is_buffered, in_cells}
use Rattle.aim_rules.specs.Bad.{bad}
use Rattle.aim_geometry.proofs.BoundedLemmas.{some_below_at, some_below_found}
use Rattle.aim_rules.proofs.MotionLemmas.{front_zero, front_more, crossing_steps-least}
use Rattle.aim_rules.proofs.GoodLemmas.{good_speed}
use Rattle.aim_rules.proofs.Ranges.{list_any-slice_range_at}
use Rattle.aim_rules.proofs.TestLemmas.{and_left, and_right, is_less, not_less, is_most, both, le_true}

-- the fast trial's front is never behind the steady one's
front_ahead : (p : Params) (k : ℕ) → p.speed ≤ p.max_speed → front p false k ≤ front p true k
front_ahead p zero l = let a = front_zero p false in let b = front_zero p true in omega arith
front_ahead p (suc k) l =
    let a = front_more p false k l in
    let b = front_more p true k l in
    let c = front_ahead p k l in
    rw (← add-one k, a, b) (let z : 0 * k ≡ 0 = omega arith in omega arith)

steps_more : (i : Intersection) (p : Params) → 0 < p.speed → p.speed ≤ p.max_speed → crossing_steps i p true ≤ crossing_steps i p false
steps_more i p h l = elim (dec_lt (crossing_steps i p false) (crossing_steps i p true)) [
  | yes b ↦ (
      let slow = is_less (path_length i p + p.length) (front p false (crossing_steps i p false)) (crossing_steps-least i p false h l).passes in
      let c = front_ahead p (crossing_steps i p false) l in
      let n = not_less (path_length i p + p.length) (front p true (crossing_steps i p false)) ((crossing_steps-least i p true h l).first (crossing_steps i p false) b) in
      absurd (omega arith))
  | no n ↦ omega arith
]

-- which element of a part of a list passes
any_at : {X : Type 0} (q : X → Bool) (xs : List X) (d : X) → list_any q xs ≡ true → (j : ℕ) × (j < length xs) × (q (get_or xs j d) ≡ true)
any_at q [] d h = absurd (cc)
any_at {X} q (x ∷ xs) d h = go (q x) refl h (any_at q xs d)
  where
    go : (b : Bool) → q x ≡ b → (b || list_any q xs) ≡ true → (list_any q xs ≡ true → (j : ℕ) × (j < length xs) × (q (get_or xs j d) ≡ true)) → (j : ℕ) × (j < length (x ∷ xs)) × (q (get_or (x ∷ xs) j d) ≡ true)
    go true e h later = (0, omega arith, e)
    go false e h later = let r = later h in (suc r.0, omega arith, r.2)

range_at : {X : Type 0} (q : X → Bool) (xs : List X) (low high : ℕ) (d : X) → list_any q (slice_range xs low high) ≡ true → (j : ℕ) × (low ≤ j) × (j < high) × (j < length xs) × (q (get_or xs j d) ≡ true)
range_at q xs low high d h =
    let r = any_at q (slice_range xs low high) d h in
    let n : length (slice_range xs low high) ≡ min (high - low) (length xs - low) = simp (length-take, length-drop) refl in
    let below = r.1 in
    (low + r.0, omega arith, omega arith, omega arith, read r.0 (omega arith) r.2)
  where
    read : (k : ℕ) → k < high - low → q (get_or (slice_range xs low high) k d) ≡ true → q (get_or xs (low + k) d) ≡ true
    read k l t = rw (get_or-take, get_or-drop) at t

-- a step, from k on, in which the steady trial covers station j
covers : (i : Intersection) (p : Params) (j : ℕ) → 0 < i.grid.spacing → 0 < p.speed → p.speed ≤ p.max_speed → j * i.grid.spacing ≤ path_length i p → (n k : ℕ) → k + n + 1 ≡ crossing_steps i p false →
    (front p false k - p.length) / i.grid.spacing ≤ j → (l : ℕ) × (k ≤ l) × (l < crossing_steps i p false) × ((front p false l - p.length) / i.grid.spacing ≤ j) × (j ≤ ceil_div (front p false (l + 1)) i.grid.spacing)
covers i p j s h l on zero k e rear =
    let t : k + 1 ≡ crossing_steps i p false = omega arith in
    let past = is_less (path_length i p + p.length) (front p false (crossing_steps i p false)) (crossing_steps-least i p false h l).passes in
    let q : path_length i p + p.length < front p false (k + 1) = rw t past in
    (k, omega arith, omega arith, rear, le-div j (front p false (k + 1) + (i.grid.spacing - 1)) i.grid.spacing s (omega arith))
covers i p j s h l on (suc n) k e rear = elim (dec_lt (ceil_div (front p false (k + 1)) i.grid.spacing) j) [
  | yes b ↦ (
      let r = covers i p j s h l on n (k + 1) (omega arith) (rear_before (front p false (k + 1)) b) in
      (r.0, omega arith, r.2, r.3, r.4))
  | no b ↦ (k, omega arith, omega arith, rear, omega arith)
]
  where
    rear_before : (x : ℕ) → ceil_div x i.grid.spacing < j → (x - p.length) / i.grid.spacing ≤ j
    rear_before x b =
        let m = div-mul-le_self (x - p.length) i.grid.spacing in
        let c = le-div ((x - p.length) / i.grid.spacing) (x + (i.grid.spacing - 1)) i.grid.spacing s (omega arith) in
        omega arith

-- where the fast trial needs a cell, the steady one needs its tile in that step or a later one
pub slower : (i : Intersection) (p : Params) (c : Cell) → 0 < i.grid.spacing → bad i p ≡ None → in_cells i p true c ≡ true → (s : ℕ) × (c.step ≤ s) × (in_cells i p false (record c { step = s }) ≡ true)
slower i p c spaced good needed =
    let v = good_speed i p good in
    let f = some_below_found (crossing_steps i p true) (λ k. is_buffered i c.row c.col (p.arrive + k) c.step && in_footprint i p true i.grid.fixed k c.row c.col) needed in
    let kept = and_left (is_buffered i c.row c.col (p.arrive + f.0) c.step) (in_footprint i p true i.grid.fixed f.0 c.row c.col) f.2 in
    let foot = and_right (is_buffered i c.row c.col (p.arrive + f.0) c.step) (in_footprint i p true i.grid.fixed f.0 c.row c.col) f.2 in
    let touched = λ (s : Station). is_touched i.grid (ceil_div p.width 2 + i.grid.spacing + i.grid.fixed) s c.row c.col in
    let r = range_at touched (stations i p.lane p.turn) ((front p true f.0 - p.length) / i.grid.spacing) (ceil_div (front p true (f.0 + 1)) i.grid.spacing + 1) (record { x = 0; y = 0 }) foot in
    let more = steps_more i p v.0 v.1 in
    let within = f.1 in
    let inside = r.3 in
    let on : r.0 * i.grid.spacing ≤ path_length i p = mul-le-mul_right i.grid.spacing (omega arith) in
    let w = covers i p r.0 spaced v.0 v.1 on (crossing_steps i p false - 1 - f.0) f.0 (omega arith) (rear_sooner (front p false f.0) (front p true f.0) r.0 (front_ahead p f.0 v.1) r.1) in
    let later = w.1 in
    let needed' : in_cells i p false (record c { step = c.step + (w.0 - f.0) }) ≡ true =
    some_below_at (crossing_steps i p false) (λ k. is_buffered i c.row c.col (p.arrive + k) (c.step + (w.0 - f.0)) && in_footprint i p false i.grid.fixed k c.row c.col) w.0 w.2
    (both (is_buffered i c.row c.col (p.arrive + w.0) (c.step + (w.0 - f.0))) (in_footprint i p false i.grid.fixed w.0 c.row c.col)
    (shifted (p.arrive + f.0) (p.arrive + w.0) c.step (w.0 - f.0) (omega arith) (is_edge i.grid c.row c.col) kept)
    (list_any-slice_range_at touched (stations i p.lane p.turn) ((front p false w.0 - p.length) / i.grid.spacing) (ceil_div (front p false (w.0 + 1)) i.grid.spacing + 1) r.0 (record { x = 0; y = 0 }) w.3 (let q = w.4 in omega arith) r.3 r.4)) in
    (c.step + (w.0 - f.0), omega arith, needed')
  where
    rear_sooner : (x y j : ℕ) → x ≤ y → (y - p.length) / i.grid.spacing ≤ j → (x - p.length) / i.grid.spacing ≤ j
    rear_sooner x y j l h =
        let m = div-mul-le_self (x - p.length) i.grid.spacing in
        let d = le-div ((x - p.length) / i.grid.spacing) (y - p.length) i.grid.spacing spaced (omega arith) in
        omega arith

    near : (a b at past s n : ℕ) → past ≡ at + n → (nat_le at (s + a) && nat_le s (at + b)) ≡ true → (nat_le past ((s + n) + a) && nat_le (s + n) (past + b)) ≡ true
    near a b at past s n e h =
        let x = is_most at (s + a) (and_left (nat_le at (s + a)) (nat_le s (at + b)) h) in
        let y = is_most s (at + b) (and_right (nat_le at (s + a)) (nat_le s (at + b)) h) in
        both (nat_le past ((s + n) + a)) (nat_le (s + n) (past + b)) (le_true past ((s + n) + a) (omega arith)) (le_true (s + n) (past + b) (omega arith))

    shifted : (at past s n : ℕ) → past ≡ at + n → (e : Bool) →
        (if e then nat_le at (s + i.times.edge) && nat_le s (at + i.times.edge) else nat_le at (s + i.times.early) && nat_le s (at + i.times.late)) ≡ true →
        (if e then nat_le past ((s + n) + i.times.edge) && nat_le (s + n) (past + i.times.edge) else nat_le past ((s + n) + i.times.early) && nat_le (s + n) (past + i.times.late)) ≡ true
    shifted at past s n e true h = near i.times.edge i.times.edge at past s n e h
    shifted at past s n e false h = near i.times.early i.times.late at past s n e h
