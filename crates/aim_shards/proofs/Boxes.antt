-- Rectangles as spans.
use Rattle.std.proofs.Common.{List, suc-mul, mul-le-mul_right, ◌≡◌, ◌≢◌, ℕ, suc, ◌+◌, ◌-◌, ◌*◌, ◌/◌, ◌%◌, ◌^◌, ◌<◌, ◌≤◌, ◌==◌, Bool, true, false, ◌&&◌, ◌||◌, refl, sym, ap, ◌∙◌, arith, leb}
use Rattle.std.specs.Prelude.{bit_and, nat_le, nat_lt}
use Rattle.std.proofs.Math.Decide.{dec_lt}
use Rattle.std.proofs.Math.Nat.{div-le_self}
use Rattle.std.proofs.lemmas.Bool.{and_from, lt-leb, le-leb, eqb-true, eq-eqb}
use Rattle.std.proofs.lemmas.Bool.Decides.{nat_tests}
use Rattle.std.proofs.lemmas.Nat.{and_le_l}
use Rattle.std.proofs.lemmas.Nat.Bits.{bit_at_ones, bit_at_ones_above, bit_at_mask_inside, bit_at_mask_below, bit_at_above, ones_shr, ones_shl}
use Rattle.aim_geometry.specs.Cells.{Cell}
use Rattle.aim_geometry.specs.Rects.{has_bit}
use Rattle.aim_sheets.specs.declared.spans.Span.{Span}
use Rattle.aim_sheets.specs.Spans.{in_span, in_spans}
use Rattle.aim_geometry.proofs.Bits.{has_bit_and}
use Rattle.aim_sheets.proofs.Masks.{no_bit}
use Rattle.aim_shards.specs.Rectangles.{is_between}
use Rattle.aim_shards.proofs.Sharing.{differ}

abbrev pub columns_of : ℕ → ℕ → ℕ
columns_of c0 c1 = bit_and ((2 ^ 64 - 1) / 2 ^ (63 - c1)) ((2 ^ 64 - 1) * 2 ^ c0 % 2 ^ 64)

-- the columns up to c1, and those from c0 on
up_to : (c1 c : ℕ) → c1 < 64 → has_bit ((2 ^ 64 - 1) / 2 ^ (63 - c1)) c ≡ nat_le c c1
up_to c1 c h =
    let e : 64 - (63 - c1) ≡ c1 + 1 = omega arith in
    rw (ones_shr 64 (63 - c1) (omega arith), e)
    (elim (dec_lt c1 c) [
      | yes l ↦ (let z : leb c c1 ≡ false = lt-leb c c1 l in rw (bit_at_ones_above (c1 + 1) c (omega arith), z) refl)
      | no l ↦ (let z : leb c c1 ≡ true = le-leb c c1 (omega arith) in rw (bit_at_ones (c1 + 1) c (omega arith), z) refl)
    ])

from_on : (c0 c : ℕ) → c0 < 64 → c < 64 → has_bit ((2 ^ 64 - 1) * 2 ^ c0 % 2 ^ 64) c ≡ nat_le c0 c
from_on c0 c h l =
    rw (ones_shl 64 c0 (omega arith))
    (elim (dec_lt c c0) [
      | yes b ↦ (let z : leb c0 c ≡ false = lt-leb c0 c b in rw (bit_at_mask_below c0 64 c b, z) refl)
      | no b ↦ (let z : leb c0 c ≡ true = le-leb c0 c (omega arith) in rw (bit_at_mask_inside c0 64 c (omega arith) l, z) refl)
    ])

and_swap : (a b : Bool) → (a && b) ≡ (b && a)
and_swap true true = refl
and_swap true false = refl
and_swap false true = refl
and_swap false false = refl

pub columns_are : (c0 c1 c : ℕ) → c0 ≤ c1 → c1 < 64 → has_bit (columns_of c0 c1) c ≡ is_between c0 c1 c
columns_are c0 c1 c le lt =
    elim (dec_lt c 64) [
      | yes b ↦ (has_bit_and ((2 ^ 64 - 1) / 2 ^ (63 - c1)) ((2 ^ 64 - 1) * 2 ^ c0 % 2 ^ 64) c ∙ ((λ i. up_to c1 c lt i && from_on c0 c (omega (arith, le, lt)) b i) ∙ and_swap (nat_le c c1) (nat_le c0 c)))
      | no b ↦ (
          let small : columns_of c0 c1 < 2 ^ 64 = omega (arith, and_le_l ((2 ^ 64 - 1) / 2 ^ (63 - c1)) ((2 ^ 64 - 1) * 2 ^ c0 % 2 ^ 64), div-le_self (2 ^ 64 - 1) (2 ^ (63 - c1))) in
          let past : nat_le c c1 ≡ false = lt-leb c c1 (omega arith) in
          let none : has_bit (columns_of c0 c1) c ≡ false = ap (λ k. k == 1) (bit_at_above (columns_of c0 c1) 64 c small (omega arith)) in
          none ∙ sym (ap (λ b. nat_le c0 c && b) past ∙ and_none (nat_le c0 c)))
    ]
  where
    and_none : (b : Bool) → (b && false) ≡ false
    and_none true = refl
    and_none false = refl

pub columns_some : (c0 c1 : ℕ) → c0 ≤ c1 → c1 < 64 → columns_of c0 c1 ≢ 0
columns_some c0 c1 le lt e =
    let has : has_bit (columns_of c0 c1) c0 ≡ true = columns_are c0 c1 c0 le lt ∙ and_from (nat_le c0 c0) (nat_le c0 c1) (le-leb c0 c0 (omega arith)) (le-leb c0 c1 le) in differ (sym has ∙ (ap (λ m. has_bit m c0) e ∙ no_bit c0))

-- rows, or steps, from the first up to before k
abbrev pub is_before : ℕ → ℕ → ℕ → Bool
is_before low k n = nat_le low n && nat_lt n k

pub none_before : (low n : ℕ) → is_before low low n ≡ false
none_before low n = grind (arith, nat_tests)

pub one_more : (low k n : ℕ) → low ≤ k → is_before low (k + 1) n ≡ (is_before low k n || (n == k))
one_more low k n le = grind (arith, nat_tests)

pub all_before : (low high n : ℕ) → is_before low (high + 1) n ≡ is_between low high n
all_before low high n = grind (arith, nat_tests)

-- room for one step more
pub room_step : (k m rows len room : ℕ) → k < m → len ≤ k * rows → room ≡ m * rows → len + rows ≤ room
room_step k m rows len room lt le e =
    let p : suc k * rows ≤ m * rows = mul-le-mul_right rows (omega arith) in omega (arith, p, le, e, suc-mul k rows)

pub count_step : (k k' rows len len' : ℕ) → k' ≡ k + 1 → len ≤ k * rows → len' ≤ len + rows → len' ≤ k' * rows
count_step k k' rows len len' e le more = omega (arith, le, more, suc-mul k rows, ap (λ n. n * rows) (e ∙ up k))
  where
    up : (n : ℕ) → n + 1 ≡ suc n
    up n = omega arith

-- the cells of a row's span
eq_not : (u w : ℕ) (b : Bool) → (w == u) ≡ false → (u == w) ≡ b → (u == w) ≡ false
eq_not u w false e h = h
eq_not u w true e h = absurd (differ (sym (eq-eqb w u (sym (eqb-true u w h))) ∙ e))

eq_comm : (u w : ℕ) → (u == w) ≡ (w == u)
eq_comm u w = go (w == u) refl
  where
    go : (b : Bool) → (w == u) ≡ b → (u == w) ≡ (w == u)
    go true e = eq-eqb u w (sym (eqb-true w u e)) ∙ sym e
    go false e = eq_not u w (u == w) e refl ∙ sym e

pub row_cells : (old new : List Span) (span : Span) (step row c0 c1 : ℕ) → span.step ≡ step → span.row ≡ row → ((c : ℕ) → has_bit span.mask c ≡ is_between c0 c1 c) → ((cell : Cell) → in_spans new cell ≡ (in_spans old cell || in_span span cell))
    → (cell : Cell) → in_spans new cell ≡ (in_spans old cell || (cell.step == step && (cell.row == row && is_between c0 c1 cell.col)))
row_cells old new span step row c0 c1 e e' bits cells cell =
    cells cell
    ∙ ap (λ b. in_spans old cell || b)
    ((λ i. ((ap (λ k. k == cell.step) e ∙ eq_comm step cell.step) i && (ap (λ k. k == cell.row) e' ∙ eq_comm row cell.row) i) && bits cell.col i) ∙ over (cell.step == step) (cell.row == row) (is_between c0 c1 cell.col))
  where
    over : (a b c : Bool) → ((a && b) && c) ≡ (a && (b && c))
    over true b c = refl
    over false b c = refl
