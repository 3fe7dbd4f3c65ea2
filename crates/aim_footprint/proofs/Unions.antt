-- The feet of neighbouring steps together are one window.
use Rattle.std.proofs.Common.{◌≡◌, ℕ, zero, suc, ◌+◌, ◌-◌, ◌<◌, ◌≤◌, Bool, true, false, ◌&&◌, List, length, min, arith, refl, nat_le}
use Rattle.std.proofs.Math.Decide.{dec_lt}
use Rattle.std.proofs.lemmas.Bool.{le-leb, leb-true, and_parts}
use Rattle.aim_geometry.specs.Bounded.{some_below}
use Rattle.aim_geometry.proofs.BoundedLemmas.{some_below_at, some_below_found}
use Rattle.aim_geometry.specs.declared.tiles.TileRect.{TileRect}
use Rattle.aim_footprint.specs.declared.reaches.Reach.{Reach}
use Rattle.aim_footprint.specs.Windows.{is_under}
use Rattle.aim_footprint.specs.Reaches.{reach_at, AreReaches}
use Rattle.aim_footprint.proofs.UnderLemmas.{under_at, under_found}

-- whether the tile is under the vehicle in a step

abbrev pub is_reached : List TileRect → List Reach → ℕ → ℕ → ℕ → Bool
is_reached rects reaches k row col = is_under rects (reach_at reaches k).low ((reach_at reaches k).high + 1) row col

pub alike : (a b : Bool) → (a ≡ true → b ≡ true) → (b ≡ true → a ≡ true) → a ≡ b
alike true true f g = refl
alike false false f g = refl
alike true false f g = absurd (let h = f refl in cc)
alike false true f g = absurd (let h = g refl in cc)

-- the step that reaches a station
step_of : (reaches : List Reach) (a b j count : ℕ) → AreReaches count reaches → a ≤ b → b < length reaches → (reach_at reaches a).low ≤ j → j ≤ (reach_at reaches b).high →
    (k : ℕ) × (a ≤ k) × (k ≤ b) × ((reach_at reaches k).low ≤ j) × (j ≤ (reach_at reaches k).high)
step_of reaches a zero j count joined l h low high = let e : a ≡ zero = omega arith in (a, omega arith, omega arith, low, (rw e high))
step_of reaches a (suc b) j count joined l h low high = elim (dec_lt b a) [
  | yes m ↦ (let e : a ≡ suc b = omega arith in (a, omega arith, omega arith, low, (rw e high)))
  | no n ↦ elim (dec_lt (reach_at reaches b).high j) [
    | yes past ↦ (
        let s : suc b ≡ b + 1 = omega arith in
        let on : (reach_at reaches (suc b)).low ≤ (reach_at reaches b).high + 1 = rw s (joined.joined b (omega arith)) in
        (suc b, omega arith, omega arith, omega arith, high))
    | no short ↦ (let r = step_of reaches a b j count joined (omega arith) (omega arith) low (omega arith) in (r.0, r.1, (let q = r.2 in omega arith), r.3, r.4))
  ]
]

-- what is in the window of some steps is under the vehicle in one of them
pub union_found : (rects : List TileRect) (reaches : List Reach) (a b row col : ℕ) → AreReaches (length rects) reaches → a ≤ b → b < length reaches →
    is_under rects (reach_at reaches a).low ((reach_at reaches b).high + 1) row col ≡ true → (k : ℕ) × (a ≤ k) × (k ≤ b) × (is_reached rects reaches k row col ≡ true)
union_found rects reaches a b row col r l h u =
    let top = r.within b h in
    let f = under_found rects (reach_at reaches a).low ((reach_at reaches b).high + 1) row col (omega arith) u in
    let j = f.0 in
    let below = f.2 in
    let k = step_of reaches a b j (length rects) r l h f.1 (omega arith) in
    let k2 = k.2 in
    let in_list = r.within k.0 (omega arith) in
    let k4 = k.4 in
    (k.0, k.1, k.2, under_at rects (reach_at reaches k.0).low ((reach_at reaches k.0).high + 1) j row col k.3 (omega arith) (omega arith) f.3)

-- and the other way round
pub union_at : (rects : List TileRect) (reaches : List Reach) (a b k row col : ℕ) → AreReaches (length rects) reaches → a ≤ k → k ≤ b → b < length reaches →
    is_reached rects reaches k row col ≡ true → is_under rects (reach_at reaches a).low ((reach_at reaches b).high + 1) row col ≡ true
union_at rects reaches a b k row col r l m h u =
    let top = r.within k (omega arith) in
    let f = under_found rects (reach_at reaches k).low ((reach_at reaches k).high + 1) row col (omega arith) u in
    let up = r.high_rises k b m h in
    let low = r.low_rises a k l (omega arith) in
    let f1 = f.1 in
    let f2 = f.2 in
    under_at rects (reach_at reaches a).low ((reach_at reaches b).high + 1) f.0 row col (omega arith) (omega arith) (omega arith) f.3

-- The cells of a step: the tile is under the vehicle in a step k near enough, where before and after say how near.
-- The steps are counted by t from `edge` steps before the arrival on.
pub window_cells : (rects : List TileRect) (reaches : List Reach) (arrive s t edge before after row col : ℕ) → AreReaches (length rects) reaches →
    s + edge ≡ arrive + t → 0 < length reaches → edge ≤ t + before → t ≤ length reaches - 1 + edge + after →
    some_below (length reaches) (λ k. (nat_le (arrive + k) (s + before) && nat_le s (arrive + k + after)) && is_reached rects reaches k row col)
    ≡ is_under rects (reach_at reaches (t - (edge + after))).low ((reach_at reaches (min (t + before - edge) (length reaches - 1))).high + 1) row col
window_cells rects reaches arrive s t edge before after row col r e some from to = alike _ _ there back
  where
    there : some_below (length reaches) (λ k. (nat_le (arrive + k) (s + before) && nat_le s (arrive + k + after)) && is_reached rects reaches k row col) ≡ true →
        is_under rects (reach_at reaches (t - (edge + after))).low ((reach_at reaches (min (t + before - edge) (length reaches - 1))).high + 1) row col ≡ true
    there h =
        let f = some_below_found (length reaches) (λ k. (nat_le (arrive + k) (s + before) && nat_le s (arrive + k + after)) && is_reached rects reaches k row col) h in
        let k = f.0 in
        let f1 = f.1 in
        let p = and_parts (nat_le (arrive + k) (s + before) && nat_le s (arrive + k + after)) (is_reached rects reaches k row col) f.2 in
        let q = and_parts (nat_le (arrive + k) (s + before)) (nat_le s (arrive + k + after)) p.0 in
        let x = leb-true (arrive + k) (s + before) q.0 in
        let y = leb-true s (arrive + k + after) q.1 in
        union_at rects reaches (t - (edge + after)) (min (t + before - edge) (length reaches - 1)) k row col r (omega arith) (omega arith) (omega arith) p.1

    back : is_under rects (reach_at reaches (t - (edge + after))).low ((reach_at reaches (min (t + before - edge) (length reaches - 1))).high + 1) row col ≡ true →
        some_below (length reaches) (λ k. (nat_le (arrive + k) (s + before) && nat_le s (arrive + k + after)) && is_reached rects reaches k row col) ≡ true
    back h =
        let f = union_found rects reaches (t - (edge + after)) (min (t + before - edge) (length reaches - 1)) row col r (omega arith) (omega arith) h in
        let k = f.0 in
        let f1 = f.1 in
        let f2 = f.2 in
        let x : nat_le (arrive + k) (s + before) ≡ true = le-leb _ _ (omega arith) in
        let y : nat_le s (arrive + k + after) ≡ true = le-leb _ _ (omega arith) in
        some_below_at (length reaches) (λ k. (nat_le (arrive + k) (s + before) && nat_le s (arrive + k + after)) && is_reached rects reaches k row col) k (omega arith) (rw (x, y, f.3) refl)
