-- Rectangles of the tiles that meet a square.
use Rattle.std.proofs.Common.{◌≡◌, ℕ, ◌<◌, ◌≤◌, ◌↔◌, IsTrue, Bool, true, false, ◌&&◌, ◌||◌, ◌+◌, refl, sym, nat_le, nat_lt, arith}
use Rattle.std.specs.Prelude.{if◌then◌else◌}
use Rattle.std.proofs.lemmas.Bool.{and_parts, leb-true, le-leb, ltb-true, lt-ltb}
use Rattle.aim_geometry.specs.declared.tiles.TileRect.{TileRect}
use Rattle.aim_geometry.specs.Rects.{in_rect}

-- equal tests, by two implications
both_ways : (a b : Bool) → (a ≡ true → b ≡ true) → (b ≡ true → a ≡ true) → a ≡ b
both_ways true b f g = sym (f refl)
both_ways false true f g = g refl
both_ways false false f g = refl

both : (a b : Bool) → a ≡ true → b ≡ true → (a && b) ≡ true
both a b x y = rw (x, y) refl

-- the numbers from one to another, both ends included, where these are just those below n that meet something
within : (first last n : ℕ) (meets : ℕ → Bool) → last < n → ((i : ℕ) → i < n → (IsTrue (meets i) ↔ ((first ≤ i) × (i ≤ last))))
    → (i : ℕ) → (nat_le first i && nat_le i last) ≡ (nat_lt i n && meets i)
within first last n meets below exact i = both_ways (nat_le first i && nat_le i last) (nat_lt i n && meets i)
    (λ h. let p = and_parts (nat_le first i) (nat_le i last) h in
    let from = leb-true first i p.0 in
    let to = leb-true i last p.1 in
    let lt : i < n = omega arith in
    both (nat_lt i n) (meets i) (lt-ltb i n lt) ((exact i lt).1 (from, to)))
    (λ h. let p = and_parts (nat_lt i n) (meets i) h in
    let q = (exact i (ltb-true i n p.0)).0 p.1 in
    both (nat_le first i) (nat_le i last) (le-leb first i q.0) (le-leb i last q.1))

regrouped : (a b c d : Bool) → ((a && b) && (c && d)) ≡ (a && c && d && b)
regrouped false b c d = refl
regrouped true false false d = refl
regrouped true false true false = refl
regrouped true false true true = refl
regrouped true true false d = refl
regrouped true true true false = refl
regrouped true true true true = refl

pub rect_is_touched : (q : TileRect) (n : ℕ) (rows columns : ℕ → Bool) → q.row1 < n → q.col1 < n
    → ((i : ℕ) → i < n → (IsTrue (rows i) ↔ ((q.row0 ≤ i) × (i ≤ q.row1))))
    → ((i : ℕ) → i < n → (IsTrue (columns i) ↔ ((q.col0 ≤ i) × (i ≤ q.col1))))
    → (row col : ℕ) → in_rect q row col ≡ (nat_lt row n && nat_lt col n && columns col && rows row)
rect_is_touched q n rows columns r c of_rows of_columns row col =
    rw (within q.row0 q.row1 n rows r of_rows row, within q.col0 q.col1 n columns c of_columns col)
    (regrouped (nat_lt row n) (rows row) (nat_lt col n) (columns col))

-- Of the rows below one more than the last, those from the first on have the columns besides what they had.
pub rows_are_joined : (first last row : ℕ) (had column : Bool)
    → (if nat_le first row && nat_lt row (last + 1) then had || column else had) ≡ (had || ((nat_le first row && nat_le row last) && column))
rows_are_joined first last row had column = rw same (rest (nat_le first row && nat_le row last) had column)
  where
    same : nat_lt row (last + 1) ≡ nat_le row last
    same = both_ways (nat_lt row (last + 1)) (nat_le row last)
        (λ h. le-leb row last (let l = ltb-true row (last + 1) h in omega arith))
        (λ h. lt-ltb row (last + 1) (let l = leb-true row last h in omega arith))

    rest : (inside had column : Bool) → (if inside then had || column else had) ≡ (had || (inside && column))
    rest true had column = refl
    rest false true column = refl
    rest false false column = refl
