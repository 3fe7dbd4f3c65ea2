-- Quotients of places by the side of a tile.
use Rattle.std.proofs.Common.{ℕ, ◌+◌, ◌-◌, ◌*◌, ◌/◌, ◌<◌, ◌≤◌, ◌↔◌, IsTrue, min, nat_le, arith, refl}
use Rattle.std.proofs.Math.Nat.{div-lt_iff_lt-mul, div-mul-le_self, le-div_iff_mul-le, le-min, min-le_left, mul-pos}
use Rattle.std.proofs.lemmas.Bool.{and_parts, leb-true, le-leb}
use Rattle.std.proofs.lemmas.Nat.{le-div}
use Rattle.aim_geometry.specs.Ground.{meets}

pub quotient_below : (a tile n : ℕ) → 0 < tile → a < tile * n → a / tile < n
quotient_below a tile n h l = (div-lt_iff_lt-mul h).1 (omega arith)

pub quotients_order : (a b tile : ℕ) → 0 < tile → a ≤ b → a / tile ≤ b / tile
quotients_order a b tile h l = le-div (a / tile) b tile h (let e = div-mul-le_self a tile in omega arith)

-- Of a place on a row of n tiles, the quotient right before an interval is no more than that of its end, and than the last tile.
pub quotients_follow : (tile half x n : ℕ) → 0 < tile → 0 < n → x ≤ n * tile → (x - half - 1) / tile ≤ min ((x + half) / tile) (n - 1)
quotients_follow tile half x n h some inside =
    let area : 0 < n * tile = mul-pos some h in
    let below : (x - half - 1) / tile < n = (div-lt_iff_lt-mul h).1 (omega arith) in
    le-min (quotients_order (x - half - 1) (x + half) tile h (omega arith)) (omega arith)

-- The quotients of the place right before an interval and of its end say which tiles up to the last one meet it.
pub quotients_meet : (tile half i x last : ℕ) → 0 < tile → i ≤ last
    → IsTrue (meets tile half i x) ↔ (((x - half - 1) / tile ≤ i) × (i ≤ min ((x + half) / tile) last))
quotients_meet tile half i x last h within = (forward, backward)
  where
    forward : IsTrue (meets tile half i x) → ((x - half - 1) / tile ≤ i) × (i ≤ min ((x + half) / tile) last)
    forward m =
        let p = and_parts (nat_le (i * tile) (x + half)) (nat_le x ((i + 1) * tile + half)) m in
        let a = leb-true (i * tile) (x + half) p.0 in
        let b = leb-true x ((i + 1) * tile + half) p.1 in
        let more : 0 < (i + 1) * tile = omega (arith, h) in
        let first : (x - half - 1) / tile < i + 1 = (div-lt_iff_lt-mul h).1 (omega arith) in
        (omega arith, le-min ((le-div_iff_mul-le h).1 a) within)

    backward : ((x - half - 1) / tile ≤ i) × (i ≤ min ((x + half) / tile) last) → IsTrue (meets tile half i x)
    backward q =
        let lower : (x - half - 1) / tile < i + 1 = let l = q.0 in omega arith in
        let a : x - half - 1 < (i + 1) * tile = (div-lt_iff_lt-mul h).0 lower in
        let upper : i ≤ (x + half) / tile = let l = q.1 in let r = min-le_left ((x + half) / tile) last in omega arith in
        let b : i * tile ≤ x + half = (le-div_iff_mul-le h).0 upper in
        let c = le-leb (i * tile) (x + half) b in
        let d = le-leb x ((i + 1) * tile + half) (omega arith) in
        rw (c, d) refl
