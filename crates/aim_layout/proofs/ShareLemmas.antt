-- Lanes that share a tile, and words that share a bit.
use Rattle.std.proofs.Common.{◌≡◌, ℕ, ◌/◌, ◌^◌, ◌<◌, ◌≤◌, true, false, ◌&&◌, not, arith, refl, sym, ◌∙◌, List, w64, eqb}
use Rattle.std.specs.Prelude.{bit_and, slice_index, nat_le}
use Rattle.std.specs.Int.{trailing_zeros}
use Rattle.std.proofs.Math.Decide.{dec_lt}
use Rattle.std.proofs.Math.Nat.{div-eq_of_lt}
use Rattle.std.proofs.lemmas.Bool.{and_parts, lt-leb, le-leb, ne_eqb}
use Rattle.std.proofs.lemmas.Nat.{and_le_l, le-div}
use Rattle.std.proofs.lemmas.Nat.Bits.{bit_at-trailing_zeros, bit_at-zero}
use Rattle.aim_geometry.specs.Bounded.{some_below}
use Rattle.aim_geometry.specs.Rects.{has_bit}
use Rattle.aim_geometry.proofs.BoundedLemmas.{some_below_at, some_below_none}
use Rattle.aim_geometry.proofs.Bits.{has_bit_and}
use Rattle.aim_layout.specs.Intersection.{Intersection}
use Rattle.aim_layout.specs.LaneTiles.{in_lane_tiles}
use Rattle.aim_layout.proofs.LaneTileLemmas.{tile_inside}
use Rattle.aim_layout.specs.LaneRows.{HasTilesOf}
use Rattle.aim_layout.specs.Building.{share_tile}

-- whether a number reaches a power of two
pub reaches : (x p : ℕ) → 0 < p → not (eqb (x / p) 0) ≡ nat_le p x
reaches x p h = elim (dec_lt x p) [
  | yes l ↦ rw (div-eq_of_lt l, lt-leb p x l) refl
  | no l ↦ (let q : 1 ≤ x / p = le-div 1 x p h (omega arith) in
      let n : x / p ≡ 0 → ⊥ = λ e. (omega arith) in
      rw (ne_eqb (x / p) 0 n, le-leb p x (omega arith)) refl)
]

-- words of two lanes' rows that have a common part show a tile that both have
pub share_tile-some : (i : Intersection) (a b : ℕ) (x y : List ℕ) (row : ℕ) → HasTilesOf i a x → HasTilesOf i b y → row < 64 → slice_index x row < 2 ^ 64 →
    0 < bit_and (slice_index x row) (slice_index y row) → share_tile i a b ≡ true
share_tile-some i a b x y row h k r wide some =
    let z = bit_and (slice_index x row) (slice_index y row) in
    let small : z < 2 ^ 64 = omega (arith, and_le_l (slice_index x row) (slice_index y row)) in
    let t = bit_at-trailing_zeros w64 z some small in
    let col = trailing_zeros w64 z in
    let set : has_bit z col ≡ true = rw t.1 refl in
    let p = and_parts (has_bit (slice_index x row) col) (has_bit (slice_index y row) col) (sym (has_bit_and (slice_index x row) (slice_index y row) col) ∙ set) in
    let one = sym (h row col r t.0) ∙ p.0 in
    let other = sym (k row col r t.0) ∙ p.1 in
    let inside = tile_inside i a row col one in
    some_below_at i.grid.n (λ r. some_below i.grid.n (λ c. in_lane_tiles i a r c && in_lane_tiles i b r c)) row inside.0
    (some_below_at i.grid.n (λ c. in_lane_tiles i a row c && in_lane_tiles i b row c) col inside.1 (rw (one, other) refl))

-- where no words have a common part, no tile is shared
pub share_tile-none : (i : Intersection) (a b : ℕ) (x y : List ℕ) → HasTilesOf i a x → HasTilesOf i b y → i.grid.n ≤ 64 →
    ((row : ℕ) → row < 64 → bit_and (slice_index x row) (slice_index y row) ≡ 0) → share_tile i a b ≡ false
share_tile-none i a b x y h k few none =
    some_below_none i.grid.n (λ r. some_below i.grid.n (λ c. in_lane_tiles i a r c && in_lane_tiles i b r c)) (λ r l.
    some_below_none i.grid.n (λ c. in_lane_tiles i a r c && in_lane_tiles i b r c) (λ c m.
    let e = has_bit_and (slice_index x r) (slice_index y r) c in
    rw (← h r c (omega arith) (omega arith), ← k r c (omega arith) (omega arith))
    (sym e ∙ rw (none r (omega arith), bit_at-zero c) refl)))

-- a row in which two words share a bit
pub bit_shared : (a b : List ℕ) (row : ℕ) → row < 64 → (bit_and (slice_index a row) (slice_index b row) ≡ 0 → ⊥) → slice_index a row < 2 ^ 64 →
    (r : ℕ) × (r < 64) × (0 < bit_and (slice_index a r) (slice_index b r)) × (slice_index a r < 2 ^ 64)
bit_shared a b row h n f = (row, h, omega arith, f)
