-- Bits of masks as tests.
use Rattle.std.proofs.Common.{◌≡◌, ℕ, zero, suc, ◌+◌, ◌-◌, ◌*◌, ◌^◌, ◌%◌, ◌/◌, ◌<◌, ◌≤◌, Bool, true, false, ◌||◌, ◌&&◌, not, min, max, arith, refl, List, length, set, leb, w64, eq-eqb, inl, inr, nat_lt, lt-ltb, le-ltb}
use Rattle.std.specs.Prelude.{bit_or, bit_and, nat_le, ◌==◌, if◌then◌else◌}
use Rattle.std.specs.Int.{bit_at, bit_not}
use Rattle.std.proofs.Math.Decide.{dec_lt}
use Rattle.std.proofs.lemmas.Bool.{cases_eq, le-leb, lt-leb, ne_eqb}
use Rattle.std.proofs.lemmas.Nat.Bits.{bit_at_or, bit_at_and, bit_at_not, bit_at-lt, bit_at_ones, bit_at_ones_above, bit_at_mask_inside, bit_at_mask_below, ones_shr, ones_shl}
use Rattle.std.proofs.lemmas.List.{get_or-set_same, get_or-set_other}
use Rattle.std.proofs.lemmas.Nat.{and_le_l}
use Rattle.aim_geometry.specs.Rects.{has_bit, tile_at}

-- what two bits are, by cases
bits_or : (a b : ℕ) → a < 2 → b < 2 → (max a b == 1) ≡ (a == 1 || b == 1)
bits_or zero zero _ _ = refl
bits_or zero (suc zero) _ _ = refl
bits_or (suc zero) zero _ _ = refl
bits_or (suc zero) (suc zero) _ _ = refl
bits_or (suc (suc a)) b h _ = absurd (omega arith)
bits_or zero (suc (suc b)) _ h = absurd (omega arith)
bits_or (suc zero) (suc (suc b)) _ h = absurd (omega arith)

bits_and : (a b : ℕ) → a < 2 → b < 2 → (min a b == 1) ≡ (a == 1 && b == 1)
bits_and zero zero _ _ = refl
bits_and zero (suc zero) _ _ = refl
bits_and (suc zero) zero _ _ = refl
bits_and (suc zero) (suc zero) _ _ = refl
bits_and (suc (suc a)) b h _ = absurd (omega arith)
bits_and zero (suc (suc b)) _ h = absurd (omega arith)
bits_and (suc zero) (suc (suc b)) _ h = absurd (omega arith)

bits_not : (a : ℕ) → a < 2 → (1 - a == 1) ≡ not (a == 1)
bits_not zero _ = refl
bits_not (suc zero) _ = refl
bits_not (suc (suc a)) h = absurd (omega arith)

pub has_bit_or : (a b c : ℕ) → has_bit (bit_or a b) c ≡ (has_bit a c || has_bit b c)
has_bit_or a b c = rw (bit_at_or a b c) (bits_or (bit_at a c) (bit_at b c) (bit_at-lt a c) (bit_at-lt b c))

pub has_bit_and : (a b c : ℕ) → has_bit (bit_and a b) c ≡ (has_bit a c && has_bit b c)
has_bit_and a b c = rw (bit_at_and a b c) (bits_and (bit_at a c) (bit_at b c) (bit_at-lt a c) (bit_at-lt b c))

pub has_bit_not : (a c : ℕ) → a < 2 ^ 64 → c < 64 → has_bit (bit_not w64 a) c ≡ not (has_bit a c)
has_bit_not a c h l = rw (bit_at_not w64 a c h l) (bits_not (bit_at a c) (bit_at-lt a c))

-- the columns up to c1
up_to : (c1 c : ℕ) → c1 < 64 → has_bit ((2 ^ 64 - 1) / 2 ^ (63 - c1)) c ≡ nat_le c c1
up_to c1 c h =
    let e : 64 - (63 - c1) ≡ c1 + 1 = omega arith in
    rw (ones_shr 64 (63 - c1) (omega arith), e)
    (elim (dec_lt c1 c) [
      | yes l ↦ (let z : leb c c1 ≡ false = lt-leb c c1 l in rw (bit_at_ones_above (c1 + 1) c (omega arith), z) refl)
      | no l ↦ (let z : leb c c1 ≡ true = le-leb c c1 (omega arith) in rw (bit_at_ones (c1 + 1) c (omega arith), z) refl)
    ])

-- the columns from c0 on
from_on : (c0 c : ℕ) → c0 < 64 → c < 64 → has_bit ((2 ^ 64 - 1) * 2 ^ c0 % 2 ^ 64) c ≡ nat_le c0 c
from_on c0 c h l =
    rw (ones_shl 64 c0 (omega arith))
    (elim (dec_lt c c0) [
      | yes b ↦ (let z : leb c0 c ≡ false = lt-leb c0 c b in rw (bit_at_mask_below c0 64 c b, z) refl)
      | no b ↦ (let z : leb c0 c ≡ true = le-leb c0 c (omega arith) in rw (bit_at_mask_inside c0 64 c (omega arith) l, z) refl)
    ])

and_swap : (a b : Bool) → (a && b) ≡ (b && a)
and_swap true true = refl
and_swap true false = refl
and_swap false true = refl
and_swap false false = refl

-- the columns from c0 to c1
pub has_bit_columns : (c0 c1 c : ℕ) → c0 < 64 → c1 < 64 → c < 64 → has_bit (bit_and ((2 ^ 64 - 1) / 2 ^ (63 - c1)) ((2 ^ 64 - 1) * 2 ^ c0 % 2 ^ 64)) c ≡ (nat_le c0 c && nat_le c c1)
has_bit_columns c0 c1 c h i l =
    rw (has_bit_and ((2 ^ 64 - 1) / 2 ^ (63 - c1)) ((2 ^ 64 - 1) * 2 ^ c0 % 2 ^ 64) c, up_to c1 c i, from_on c0 c h l) (and_swap (nat_le c c1) (nat_le c0 c))

-- one row is written
pub tile_at_set : (rows : List ℕ) (k mask r c : ℕ) → k < length rows → tile_at (set rows k mask) r c ≡ (if r == k then has_bit mask c else tile_at rows r c)
tile_at_set rows k mask r c h = elim (cases_eq r k) [
  | inl e ↦ rw (e, get_or-set_same rows k mask 0 h, eq-eqb k k refl) refl
  | inr n ↦ rw (get_or-set_other rows k r mask 0 n, ne_eqb r k n) refl
]

lt_self : (k : ℕ) → nat_lt k k ≡ false
lt_self k = le-ltb k k (omega arith)

-- a row that the loop has not come to is as it was
pub row_waits : (row0 k : ℕ) (new old : Bool) → (if nat_le row0 k && nat_lt k k then new else old) ≡ old
row_waits row0 k new old = go (nat_le row0 k) (nat_lt k k) (lt_self k)
  where
    go : (a b : Bool) → b ≡ false → (if a && b then new else old) ≡ old
    go true false e = refl
    go false false e = refl
    go a true e = absurd (cc)

-- one row more is written, in a loop over rows from row0 on
pub row_written : (rows : List ℕ) (k row0 x r c : ℕ) (new old : Bool) → k < length rows → row0 ≤ k → (r ≡ k → has_bit x c ≡ new) →
    tile_at rows r c ≡ (if nat_le row0 r && nat_lt r k then new else old) →
    tile_at (set rows k x) r c ≡ (if nat_le row0 r && nat_lt r (k + 1) then new else old)
row_written rows k row0 x r c new old h l written was = elim (cases_eq r k) [
  | inl e ↦ (let a : nat_le row0 r ≡ true = le-leb row0 r (omega arith) in
      let b : nat_lt r (k + 1) ≡ true = lt-ltb r (k + 1) (omega arith) in
      let d : tile_at (set rows k x) r c ≡ has_bit x c = rw (e, get_or-set_same rows k x 0 h) refl in
      rw (d, a, b) (written e))
  | inr n ↦ (let b : nat_lt r (k + 1) ≡ nat_lt r k = lt_more r k n in
      let d : tile_at (set rows k x) r c ≡ tile_at rows r c = rw (get_or-set_other rows k r x 0 n) refl in
      rw (d, b) was)
]
  where
    lt_more : (r k : ℕ) → (r ≡ k → ⊥) → nat_lt r (k + 1) ≡ nat_lt r k
    lt_more r k n = elim (dec_lt r k) [
      | yes l ↦ rw (lt-ltb r (k + 1) (omega arith), lt-ltb r k l) refl
      | no l ↦ rw (le-ltb r (k + 1) (omega arith), le-ltb r k (omega arith)) refl
    ]

-- some bits are cleared, but for others
pub has_bit_and_not : (was all stay c : ℕ) → all < 2 ^ 64 → stay < 2 ^ 64 → c < 64 → has_bit (bit_and was (bit_not w64 (bit_and all (bit_not w64 stay)))) c ≡ (has_bit was c && not (has_bit all c && not (has_bit stay c)))
has_bit_and_not was all stay c h i l =
    let below : bit_and all (bit_not w64 stay) < 2 ^ 64 = omega (arith, and_le_l all (bit_not w64 stay)) in
    rw (has_bit_and was (bit_not w64 (bit_and all (bit_not w64 stay))) c, has_bit_not (bit_and all (bit_not w64 stay)) c below l, has_bit_and all (bit_not w64 stay) c, has_bit_not stay c i l) refl
