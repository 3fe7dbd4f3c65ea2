-- Bounds on stations.
use Rattle.std.proofs.Common.{◌≡◌, ℕ, ◌+◌, ◌-◌, ◌*◌, ◌/◌, ◌^◌, ◌<◌, ◌≤◌, Fits, w64, ap, arith, ◌∙◌}
use Rattle.std.proofs.Math.Nat.{mul-le-mul, mul-le-mul_left, add-mul-div_left, div-eq_of_eq-mul_left, div-le_of_le-mul, pow-suc, pow-zero}
use Rattle.std.proofs.Math.Decide.{dec_lt}
use Rattle.aim_geometry.specs.Bounded.{ceil_div}
use Rattle.aim_geometry.specs.Stations.{on_line, on_curve}

-- a mean is at most the greatest
pub mean_le : (a b c x y z top : ℕ) → x ≤ top → y ≤ top → z ≤ top → a * x + b * y + c * z ≤ (a + b + c) * top
mean_le a b c x y z top p q r = grind arith

pub parts_le : (d j x y z top : ℕ) → x ≤ top → y ≤ top → z ≤ top → d * d * x + 2 * j * d * y + j * j * z ≤ (d + j) * (d + j) * top
parts_le d j x y z top p q r = omega (arith, mean_le (d * d) (2 * j * d) (j * j) x y z top p q r)

pub curve_le : (m j x y z top : ℕ) → j ≤ m → x ≤ top → y ≤ top → z ≤ top → (m - j) * (m - j) * x + 2 * j * (m - j) * y + j * j * z ≤ m * m * top
curve_le m j x y z top h p q r =
    let e : (m - j) + j ≡ m = omega arith in
    rw e at (parts_le (m - j) j x y z top p q r)

pub square_le : (m : ℕ) → m ≤ 4096 → m * m * 1000000 ≤ 16777216000000
square_le m h = let s : m * m ≤ 4096 * 4096 = mul-le-mul h h in omega arith

-- the terms of a curve fit a word of 64 bits, and so do their sums
pub terms_fit : (m j x y z : ℕ) → m ≤ 4096 → j ≤ m → x ≤ 1000000 → y ≤ 1000000 → z ≤ 1000000
    → Fits w64 ((m - j) * (m - j) * x) × Fits w64 (2 * j * (m - j) * y) × Fits w64 (j * j * z) × Fits w64 ((m - j) * (m - j) * x + 2 * j * (m - j) * y) × Fits w64 ((m - j) * (m - j) * x + 2 * j * (m - j) * y + j * j * z)
terms_fit m j x y z most h p q r =
    let all = curve_le m j x y z 1000000 h p q r in
    let square = square_le m most in
    (omega (arith, all, square), omega (arith, all, square), omega (arith, all, square), omega (arith, all, square), omega (arith, all, square))

-- the products of two parts of a curve fit as well
pub parts_fit : (m j : ℕ) → m ≤ 4096 → j ≤ m → Fits w64 ((m - j) * (m - j)) × Fits w64 (2 * j * (m - j)) × Fits w64 (j * j) × Fits w64 (m * m)
parts_fit m j most h =
    let fit = terms_fit m j 1 1 1 most h (omega arith) (omega arith) (omega arith) in
    let square = square_le m most in
    (omega (arith, fit.0), omega (arith, fit.1), omega (arith, fit.2), omega (arith, square))

line_le : (m j x y top : ℕ) → j ≤ m → x ≤ top → y ≤ top → (m - j) * x + j * y ≤ m * top
line_le m j x y top h p q =
    let e : (m - j) + j ≡ m = omega arith in
    rw e at (parts (m - j) j x y top p q)
  where
    parts : (d j x y top : ℕ) → x ≤ top → y ≤ top → d * x + j * y ≤ (d + j) * top
    parts d j x y top p q = grind arith

-- the terms of a line fit a word of 64 bits, and so does their sum
pub line_fits : (m j x y : ℕ) → m ≤ 4096 → j ≤ m → x ≤ 1000000 → y ≤ 1000000 → Fits w64 ((m - j) * x) × Fits w64 (j * y) × Fits w64 ((m - j) * x + j * y)
line_fits m j x y most h p q =
    let all = line_le m j x y 1000000 h p q in
    (omega (arith, all, most), omega (arith, all, most), omega (arith, all, most))

square : (a : ℕ) → a ^ 2 ≡ a * a
square a = rw (pow-suc a 1, pow-suc a 0, pow-zero a) (omega arith)

-- a station lies between the least and the greatest of the places that make it
pub on_line_le : (x0 x1 m j top : ℕ) → j ≤ m → x0 ≤ top → x1 ≤ top → on_line x0 x1 m j ≤ top
on_line_le x0 x1 m j top h p q = div-le_of_le-mul m (line_le m j x0 x1 top h p q)

pub on_curve_le : (x0 x1 x2 m j top : ℕ) → j ≤ m → x0 ≤ top → x1 ≤ top → x2 ≤ top → on_curve x0 x1 x2 m j ≤ top
on_curve_le x0 x1 x2 m j top h p q r = rw (square (m - j), square j, square m) (div-le_of_le-mul (m * m) (curve_le m j x0 x1 x2 top h p q r))

-- On the way up a station is the start and the whole part of its share of the way.
pub on_line-up : (x0 x1 m j : ℕ) → 0 < m → j ≤ m → x0 ≤ x1 → on_line x0 x1 m j ≡ x0 + j * (x1 - x0) / m
on_line-up x0 x1 m j h l u =
    let e : (m - j) * x0 + j * x1 ≡ j * (x1 - x0) + m * x0 = on_way (m - j) j x0 (x1 - x0) m x1 (omega arith) (omega arith) in
    rw e (add-mul-div_left (j * (x1 - x0)) x0 h ∙ omega arith)
  where
    on_way : (k j x d m y : ℕ) → k + j ≡ m → x + d ≡ y → k * x + j * y ≡ j * d + m * x
    on_way k j x d m y p q = rw (← p, ← q) (omega arith)

-- On the way down it is the start less that share, rounded up: the whole part is towards minus infinity.
pub on_line-down : (x0 x1 m j : ℕ) → 0 < m → j ≤ m → x1 ≤ x0 → on_line x0 x1 m j + ceil_div (j * (x0 - x1)) m ≡ x0
on_line-down x0 x1 m j h l u =
    let e : (m - j) * x0 + j * x1 + j * (x0 - x1) ≡ m * x0 = on_way (m - j) j x1 (x0 - x1) m x0 (omega arith) (omega arith) in
    share ((m - j) * x0 + j * x1) (j * (x0 - x1)) m x0 h e
  where
    on_way : (k j x d m y : ℕ) → k + j ≡ m → x + d ≡ y → k * y + j * x + j * d ≡ m * y
    on_way k j x d m y p q = rw (← p, ← q) (omega arith)

    share : (a b m x : ℕ) → 0 < m → a + b ≡ m * x → a / m + ceil_div b m ≡ x
    share a b m x h e = elim (dec_lt (a / m + ceil_div b m) x) [
      | yes l ↦ absurd (let k : m * (a / m + ceil_div b m + 1) ≤ m * x = mul-le-mul_left m (omega arith) in omega arith)
      | no l ↦ elim (dec_lt x (a / m + ceil_div b m)) [
        | yes g ↦ absurd (let k : m * (x + 1) ≤ m * (a / m + ceil_div b m) = mul-le-mul_left m (omega arith) in omega arith)
        | no g ↦ omega arith
      ]
    ]

-- a curve's station is the mean of the means of its lines
pub on_curve-between : (x0 x1 x2 m j : ℕ) → on_curve x0 x1 x2 m j ≡ ((m - j) * ((m - j) * x0 + j * x1) + j * ((m - j) * x1 + j * x2)) / (m * m)
on_curve-between x0 x1 x2 m j = rw (square (m - j), square j, square m) (ap (λ n. n / (m * m)) (weights (m - j)))
  where
    weights : (d : ℕ) → d * d * x0 + 2 * j * d * x1 + j * j * x2 ≡ d * (d * x0 + j * x1) + j * (d * x1 + j * x2)
    weights d = omega arith

-- lines and curves have their ends
pub on_line-start : (x0 x1 m : ℕ) → 0 < m → on_line x0 x1 m 0 ≡ x0
on_line-start x0 x1 m h = div-eq_of_eq-mul_left h (let e : m - 0 ≡ m = omega arith in rw e (omega arith))

pub on_line-end : (x0 x1 m : ℕ) → 0 < m → on_line x0 x1 m m ≡ x1
on_line-end x0 x1 m h = div-eq_of_eq-mul_left h (let e : m - m ≡ 0 = omega arith in rw e (omega arith))

pub on_curve-start : (x0 x1 x2 m : ℕ) → 0 < m → on_curve x0 x1 x2 m 0 ≡ x0
on_curve-start x0 x1 x2 m h =
    let some : 0 < m * m = mul-le-mul h h in
    let e : m - 0 ≡ m = omega arith in
    on_curve-between x0 x1 x2 m 0 ∙ div-eq_of_eq-mul_left some (rw e (omega arith))

pub on_curve-end : (x0 x1 x2 m : ℕ) → 0 < m → on_curve x0 x1 x2 m m ≡ x2
on_curve-end x0 x1 x2 m h =
    let some : 0 < m * m = mul-le-mul h h in
    let e : m - m ≡ 0 = omega arith in
    on_curve-between x0 x1 x2 m m ∙ div-eq_of_eq-mul_left some (rw e (omega arith))
