-- The bits of the columns at the border.
use Rattle.std.proofs.Common.{◌≡◌, ℕ, ◌-◌, ◌*◌, ◌^◌, ◌%◌, ◌<◌, ◌≤◌, Bool, true, false, ◌||◌, ◌&&◌, not, arith, refl, ◌∙◌, eqb, eq-eqb, inl, inr, w64}
use Rattle.std.specs.Prelude.{bit_or, bit_and, ◌==◌, if◌then◌else◌}
use Rattle.std.specs.Int.{bit_at, bit_not}
use Rattle.std.proofs.lemmas.Bool.{cases_eq, ne_eqb}
use Rattle.std.proofs.lemmas.Nat.Bits.{bit_at_ones, bit_at_set_same, bit_at_set_other, bit_at-pow_other}
use Rattle.aim_geometry.specs.Rects.{has_bit}
use Rattle.aim_geometry.proofs.Bits.{has_bit_or, has_bit_and, has_bit_not}
use Rattle.aim_requests.specs.Rows.{is_border}

-- all columns
pub all_bits : (c : ℕ) → c < 64 → has_bit 18446744073709551615 c ≡ true
all_bits c l = rw (bit_at_ones 64 c l) refl

-- the first and the last column
pub side_bits : (n c : ℕ) → 0 < n → n ≤ 64 → c < 64 → has_bit (bit_or 1 (1 * 2 ^ (n - 1) % 2 ^ 64)) c ≡ (c == 0 || c == n - 1)
side_bits n c some few l = elim (cases_eq c (n - 1)) [
  | inl e ↦ (let a : eqb c (n - 1) ≡ true = eq-eqb c (n - 1) e in
      let h : has_bit (bit_or 1 (1 * 2 ^ (n - 1) % 2 ^ 64)) c ≡ true = rw (e, bit_at_set_same w64 1 (n - 1) (omega arith)) refl in h ∙ rw a (or_true (c == 0)))
  | inr m ↦ (let a : eqb c (n - 1) ≡ false = ne_eqb c (n - 1) m in rw (bit_at_set_other w64 1 (n - 1) (omega arith) c m, a) (lowest c))
]
  where
    or_true : (b : Bool) → true ≡ (b || true)
    or_true true = refl
    or_true false = refl

    lowest : (c : ℕ) → (bit_at 1 c == 1) ≡ (c == 0 || false)
    lowest c = elim (cases_eq c 0) [
      | inl e ↦ rw e refl
      | inr m ↦ (let a : eqb c 0 ≡ false = ne_eqb c 0 m in let b : bit_at (2 ^ 0) c ≡ 0 = bit_at-pow_other 0 c m in rw (b, a) refl)
    ]

-- the columns of a row at the top or bottom
pub border_all : (n row c : ℕ) → c < 64 → (row == 0 || row == n - 1) ≡ true → has_bit 18446744073709551615 c ≡ is_border n row c
border_all n row c l h = rw (all_bits c l) (go (row == 0 || row == n - 1) h)
  where
    go : (a : Bool) → a ≡ true → true ≡ (a || c == 0 || c == n - 1)
    go true h = refl
    go false h = absurd (cc)

pub border_sides : (n row c : ℕ) → 0 < n → n ≤ 64 → c < 64 → (row == 0 || row == n - 1) ≡ false → has_bit (bit_or 1 (1 * 2 ^ (n - 1) % 2 ^ 64)) c ≡ is_border n row c
border_sides n row c some few l h = rw (side_bits n c some few l) (go (row == 0 || row == n - 1) (c == 0) (c == n - 1) h)
  where
    go : (a b d : Bool) → a ≡ false → (b || d) ≡ (a || b || d)
    go true b d h = absurd (cc)
    go false b d h = refl

choice : (a b e : Bool) → (a && not e || b && e) ≡ (if e then b else a)
choice true true true = refl
choice true true false = refl
choice true false true = refl
choice true false false = refl
choice false true true = refl
choice false true false = refl
choice false false true = refl
choice false false false = refl

-- one mask inside, and the other at the border
pub chosen : (inner outer edge c : ℕ) → edge < 2 ^ 64 → c < 64 → has_bit (bit_or (bit_and inner (bit_not w64 edge)) (bit_and outer edge)) c ≡ (if has_bit edge c then has_bit outer c else has_bit inner c)
chosen inner outer edge c fits l =
    rw (has_bit_or (bit_and inner (bit_not w64 edge)) (bit_and outer edge) c, has_bit_and inner (bit_not w64 edge) c, has_bit_and outer edge c, has_bit_not edge c fits l) (choice (has_bit inner c) (has_bit outer c) (has_bit edge c))
