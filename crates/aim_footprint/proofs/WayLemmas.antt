-- Rectangles whose sides go one way are steady.
use Rattle.std.proofs.Common.{◌≡◌, ℕ, zero, suc, ◌+◌, ◌-◌, ◌<◌, ◌≤◌, true, ◌&&◌, ◌⊎◌, inl, inr, List, length, min, max, arith, refl, nat_le, add-one}
use Rattle.std.proofs.Math.Decide.{dec_lt}
use Rattle.std.proofs.lemmas.Bool.{le-leb, leb-true, and_parts}
use Rattle.aim_geometry.specs.declared.tiles.TileRect.{TileRect}
use Rattle.aim_geometry.specs.Rects.{in_rows, in_columns}
use Rattle.aim_footprint.specs.Windows.{rect_at, AreSteady}
use Rattle.aim_footprint.specs.Ways.{RowsRise, RowsFall, ColumnsRise, ColumnsFall}

-- what rises from each to the next rises from each to all later ones
rises : (side : ℕ → ℕ) (n i k : ℕ) → ((j : ℕ) → j + 1 < n → side j ≤ side (j + 1)) → i ≤ k → k < n → side i ≤ side k
rises side n i zero up a b = let e : i ≡ zero = omega arith in rw e (omega arith)
rises side n i (suc k) up a b = elim (dec_lt k i) [
  | yes l ↦ (let e : i ≡ suc k = omega arith in rw e (omega arith))
  | no l ↦ (let r = rises side n i k up (omega arith) (omega arith) in let s = up k (omega arith) in rw (← add-one k) (omega arith))
]

falls : (side : ℕ → ℕ) (n i k : ℕ) → ((j : ℕ) → j + 1 < n → side (j + 1) ≤ side j) → i ≤ k → k < n → side k ≤ side i
falls side n i zero down a b = let e : i ≡ zero = omega arith in rw e (omega arith)
falls side n i (suc k) down a b = elim (dec_lt k i) [
  | yes l ↦ (let e : i ≡ suc k = omega arith in rw e (omega arith))
  | no l ↦ (let r = falls side n i k down (omega arith) (omega arith) in let s = down k (omega arith) in rw (← add-one k) (omega arith))
]

-- two sides, the lower one first, that both rise or both fall
pub record GoOneWay (low high : ℕ → ℕ) (n : ℕ) : Type 0 where
  pub way : (((i k : ℕ) → i ≤ k → k < n → low i ≤ low k) × ((i k : ℕ) → i ≤ k → k < n → high i ≤ high k)) ⊎ (((i k : ℕ) → i ≤ k → k < n → low k ≤ low i) × ((i k : ℕ) → i ≤ k → k < n → high k ≤ high i))

test : (lo hi x : ℕ) → lo ≤ x → x ≤ hi → (nat_le lo x && nat_le x hi) ≡ true
test lo hi x a b = rw (le-leb lo x a, le-leb x hi b) refl

within : (lo hi x : ℕ) → (nat_le lo x && nat_le x hi) ≡ true → (lo ≤ x) × (x ≤ hi)
within lo hi x h = let p = and_parts (nat_le lo x) (nat_le x hi) h in (leb-true lo x p.0, leb-true x hi p.1)

-- what lies within the first and the last lies within those between
between : (low high : ℕ → ℕ) (n : ℕ) → GoOneWay low high n → (i j k x : ℕ) → i ≤ j → j ≤ k → k < n →
    (nat_le (low i) x && nat_le x (high i)) ≡ true → (nat_le (low k) x && nat_le x (high k)) ≡ true → (nat_le (low j) x && nat_le x (high j)) ≡ true
between low high n way i j k x a b d g h =
    let p = within (low i) (high i) x g in
    let q = within (low k) (high k) x h in
    let p0 = p.0 in let p1 = p.1 in let q0 = q.0 in let q1 = q.1 in
    elim way.way [
      | inl up ↦ (let u = up.0 j k b d in let v = up.1 i j a (omega arith) in test (low j) (high j) x (omega arith) (omega arith))
      | inr down ↦ (let u = down.0 i j a (omega arith) in let v = down.1 j k b d in test (low j) (high j) x (omega arith) (omega arith))
    ]

-- what lies within one lies between the first and the last
hull : (low high : ℕ → ℕ) (n : ℕ) → GoOneWay low high n → (i j k x : ℕ) → i ≤ j → j ≤ k → k < n → (nat_le (low j) x && nat_le x (high j)) ≡ true →
    (min (low i) (low k) ≤ x) × (x ≤ max (high i) (high k))
hull low high n way i j k x a b d h =
    let p = within (low j) (high j) x h in
    let p0 = p.0 in let p1 = p.1 in
    elim way.way [
      | inl up ↦ (let u = up.0 i j a (omega arith) in let v = up.1 j k b d in (omega arith, omega arith))
      | inr down ↦ (let u = down.0 j k b d in let v = down.1 i j a (omega arith) in (omega arith, omega arith))
    ]

rows_go : (rects : List TileRect) → RowsRise rects (length rects) ⊎ RowsFall rects (length rects) → GoOneWay (λ j. (rect_at rects j).row0) (λ j. (rect_at rects j).row1) (length rects)
rows_go rects (inl up) = record { way = inl (λ i k a b. rises (λ j. (rect_at rects j).row0) (length rects) i k up.first a b, λ i k a b. rises (λ j. (rect_at rects j).row1) (length rects) i k up.last a b) }
rows_go rects (inr down) = record { way = inr (λ i k a b. falls (λ j. (rect_at rects j).row0) (length rects) i k down.first a b, λ i k a b. falls (λ j. (rect_at rects j).row1) (length rects) i k down.last a b) }

columns_go : (rects : List TileRect) → ColumnsRise rects (length rects) ⊎ ColumnsFall rects (length rects) → GoOneWay (λ j. (rect_at rects j).col0) (λ j. (rect_at rects j).col1) (length rects)
columns_go rects (inl up) = record { way = inl (λ i k a b. rises (λ j. (rect_at rects j).col0) (length rects) i k up.first a b, λ i k a b. rises (λ j. (rect_at rects j).col1) (length rects) i k up.last a b) }
columns_go rects (inr down) = record { way = inr (λ i k a b. falls (λ j. (rect_at rects j).col0) (length rects) i k down.first a b, λ i k a b. falls (λ j. (rect_at rects j).col1) (length rects) i k down.last a b) }

pub steady : (rects : List TileRect) → RowsRise rects (length rects) ⊎ RowsFall rects (length rects) → ColumnsRise rects (length rects) ⊎ ColumnsFall rects (length rects) → AreSteady rects
steady rects rows columns = record {
  between = λ i j k row col a b d g h.
      let p = and_parts (in_rows (rect_at rects i) row) (in_columns (rect_at rects i) col) g in
      let q = and_parts (in_rows (rect_at rects k) row) (in_columns (rect_at rects k) col) h in
      rw (
        between (λ j. (rect_at rects j).row0) (λ j. (rect_at rects j).row1) (length rects) (rows_go rects rows) i j k row a b d p.0 q.0,
        between (λ j. (rect_at rects j).col0) (λ j. (rect_at rects j).col1) (length rects) (columns_go rects columns) i j k col a b d p.1 q.1,
      ) refl;
  hull = λ low next j row a b d h.
      hull (λ j. (rect_at rects j).row0) (λ j. (rect_at rects j).row1) (length rects) (rows_go rects rows) low j (next - 1) row a (omega arith) (omega arith) h;
}

-- fewer rectangles go the same way
pub rows_rise_in : (rects : List TileRect) (n m : ℕ) → m ≤ n → RowsRise rects n → RowsRise rects m
rows_rise_in rects n m h r = record { first = λ j l. r.first j (omega arith); last = λ j l. r.last j (omega arith) }

pub rows_fall_in : (rects : List TileRect) (n m : ℕ) → m ≤ n → RowsFall rects n → RowsFall rects m
rows_fall_in rects n m h r = record { first = λ j l. r.first j (omega arith); last = λ j l. r.last j (omega arith) }

pub columns_rise_in : (rects : List TileRect) (n m : ℕ) → m ≤ n → ColumnsRise rects n → ColumnsRise rects m
columns_rise_in rects n m h r = record { first = λ j l. r.first j (omega arith); last = λ j l. r.last j (omega arith) }

pub columns_fall_in : (rects : List TileRect) (n m : ℕ) → m ≤ n → ColumnsFall rects n → ColumnsFall rects m
columns_fall_in rects n m h r = record { first = λ j l. r.first j (omega arith); last = λ j l. r.last j (omega arith) }
