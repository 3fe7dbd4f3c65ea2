-- Sets of lanes as bits, and their numbers in rising order.
use Rattle.std.proofs.Common.{◌≡◌, ℕ, zero, suc, ◌+◌, ◌-◌, ◌*◌, ◌/◌, ◌%◌, ◌^◌, ◌<◌, ◌≤◌, ◌==◌, true, false, List, [], ◌∷◌, map, filter, None, Ok, decimal, refl, sym, ap, ◌∙◌, arith, inl, inr, ◌⊎◌, length, subst, pow-add}
use Rattle.std.specs.List.{range_with_len}
use Rattle.std.proofs.lemmas.Nat.{div-mul-add, pow_pos, div-add-mod'}
use Rattle.std.proofs.lemmas.List.Sums.{sum_by-cons}
use Rattle.std.proofs.Math.Pow.{pow_mono}
use Rattle.std.proofs.Math.Nat.{mod-lt, mul_comm}
use Rattle.std.proofs.lemmas.Bool.{cases_Bool, eqb-true, eq-eqb, le-ltb}
use Rattle.aim_messages.specs.Texts.{Words}
use Rattle.aim_messages.specs.Lines.{has_lane, all_lanes, lane_words}
use Rattle.aim_text_words.specs.Faults.{value_of, number_fault}
use Rattle.aim_text_lines.specs.Forms.{lane_places}
use Rattle.aim_text_words.specs.Reading.{unless}
use Rattle.aim_text_lines.specs.Reading.{lanes_of}
use Rattle.aim_text_lines.specs.Steps.{lanes_in}
use Rattle.aim_text_words.proofs.NumberLaws.{number_good, value_decimal, IsNumberIn, number_in_from, decimal_value}
use Rattle.aim_text_lines.proofs.ListLaws.{lanes_next, twice}
use Rattle.aim_text_words.proofs.NoFaults.{NoFaults}

-- the bits from a lane on
quotient : (lanes i m q : ℕ) → lanes ≡ q * 2 ^ i + m → m < 2 ^ i → lanes / 2 ^ i ≡ q
quotient lanes i m q is below = rw is (div-mul-add q (2 ^ i) m below)

is_odd : (q : ℕ) → q % 2 ≡ 1 → q ≡ q / 2 * 2 + 1
is_odd q one = sym (rw (sym one) (div-add-mod' q 2))

is_even : (q : ℕ) → q % 2 ≡ 0 → q ≡ q / 2 * 2
is_even q none = let whole : q / 2 * 2 + q % 2 ≡ q = div-add-mod' q 2 in omega arith

-- a lane that is set: its bit goes to those that are below
with_lane : (lanes i m q : ℕ) → lanes ≡ q * 2 ^ i + m → q ≡ q / 2 * 2 + 1 → lanes ≡ q / 2 * 2 ^ (i + 1) + (m + 2 ^ i)
with_lane lanes i m q is odd =
    let split : lanes ≡ (q / 2 * 2 + 1) * 2 ^ i + m = is ∙ ap (λ k. k * 2 ^ i + m) odd in
    rw (twice i) (omega (arith, split))

without_lane : (lanes i m q : ℕ) → lanes ≡ q * 2 ^ i + m → q ≡ q / 2 * 2 → lanes ≡ q / 2 * 2 ^ (i + 1) + m
without_lane lanes i m q is even =
    let split : lanes ≡ q / 2 * 2 * 2 ^ i + m = is ∙ ap (λ k. k * 2 ^ i + m) even in
    rw (twice i) (omega (arith, split))

cases_two : (b : ℕ) → b < 2 → (b ≡ 0) ⊎ (b ≡ 1)
cases_two zero h = inl refl
cases_two (suc zero) h = inr refl
cases_two (suc (suc b)) h = absurd (omega arith)

lane_is_read : (low i : ℕ) → low ≤ i → i ≤ 15 → Ok i ≡ unless (value_of (decimal i)) (number_fault low 15 (decimal i))
lane_is_read low i least most =
    let good : number_fault low 15 (decimal i) ≡ None = number_good low 15 i least most (omega arith) in
    rw (good, value_decimal i (omega arith)) refl

-- the numbers of a set's lanes are read as that set
lanes_from : (n i low m q lanes : ℕ) → i + n ≡ 16 → low ≤ i → lanes ≡ q * 2 ^ i + m → m < 2 ^ i → lanes < 2 ^ 16
    → lanes_in m low (map decimal (filter (has_lane lanes) (range_with_len i n))) ≡ Ok lanes
unfolding lanes_in
lanes_from zero i low m q lanes end least is below small =
    let last : i ≡ 16 = omega arith in
    let none : lanes / 2 ^ i ≡ q = quotient lanes i m q is below in
    let same : m ≡ lanes = at_end i m q lanes last is small in
    ap Ok same
  where
    at_end : (i m q lanes : ℕ) → i ≡ 16 → lanes ≡ q * 2 ^ i + m → lanes < 2 ^ 16 → m ≡ lanes
    at_end i m q lanes last is small = let whole : lanes ≡ q * 65536 + m = is ∙ ap (λ k. q * 2 ^ k + m) last in omega arith
lanes_from (suc n) i low m q lanes end least is below small =
    let bit : lanes / 2 ^ i % 2 ≡ q % 2 = ap (λ k. k % 2) (quotient lanes i m q is below) in
    elim (cases_two (q % 2) (mod-lt q (omega arith))) [
      | inl even ↦
          let off : has_lane lanes i ≡ false = rw (bit, even) refl in
          rw off (lanes_from n (i + 1) low m (q / 2) lanes (omega arith) (omega arith) (without_lane lanes i m q is (is_even q even)) (rw (twice i) (omega arith)) small)
      | inr odd ↦
          let on : has_lane lanes i ≡ true = rw (bit, odd) refl in
          rw on (lanes_next m low (decimal i) (map decimal (filter (has_lane lanes) (range_with_len (i + 1) n))) i (lane_is_read low i least (omega arith))
          ∙ lanes_from n (i + 1) (i + 1) (m + 2 ^ i) (q / 2) lanes (omega arith) (omega arith) (with_lane lanes i m q is (is_odd q odd)) (rw (twice i) (omega arith)) small)
    ]

pub lanes_again : (lanes : ℕ) → lanes < 2 ^ 16 → lanes_in 0 0 (lane_words lanes) ≡ Ok lanes
unfolding all_lanes
lanes_again lanes small = lanes_from 16 0 0 0 lanes lanes (omega arith) (omega arith) (omega arith) (omega arith) small

-- the bits of the words' lanes
bits : Words → ℕ
bits [] = 0
bits (w ∷ ws) = 2 ^ value_of w + bits ws

bits_are : (ws : Words) → lanes_of ws ≡ bits ws
unfolding bits
bits_are [] = refl
bits_are (w ∷ ws) = sum_by-cons (λ w. 2 ^ value_of w) w ws ∙ ap (λ n. 2 ^ value_of w + n) (bits_are ws)

pub lane_at : (low : ℕ) (w : List ℕ) (ws : Words) → NoFaults (lane_places low (w ∷ ws)) (w ∷ ws) → IsNumberIn low 15 w
lane_at low w ws n = number_in_from low 15 w n.0

power_add : (a b : ℕ) → 2 ^ (a + b) ≡ 2 ^ b * 2 ^ a
power_add a b = pow-add 2 a b ∙ mul_comm (2 ^ a) (2 ^ b)

-- they are a multiple of the bit of the least that they may have
multiple : (low : ℕ) (ws : Words) → NoFaults (lane_places low ws) ws → (k : ℕ) × (bits ws ≡ k * 2 ^ low)
unfolding bits
multiple low [] n = (0, omega arith)
multiple low (w ∷ ws) n =
    let is = lane_at low w ws n in
    let least = is.least in
    let more = multiple (value_of w + 1) ws n.1 in
    let gap : value_of w ≡ low + (value_of w - low) = omega arith in
    let power : 2 ^ value_of w ≡ 2 ^ (value_of w - low) * 2 ^ low = ap (λ k. 2 ^ k) gap ∙ power_add low (value_of w - low) in (
      2 ^ (value_of w - low) * (1 + more.0 * 2),
      rw (more.1, twice (value_of w), power) (grind arith),
    )

-- and below the bit past the greatest
bits_below : (low : ℕ) (ws : Words) → low ≤ 16 → NoFaults (lane_places low ws) ws → bits ws + 2 ^ low ≤ 2 ^ 16
unfolding bits
bits_below low [] most n = let power : 2 ^ low ≤ 2 ^ 16 = pow_mono most in omega arith
bits_below low (w ∷ ws) most n =
    let is = lane_at low w ws n in
    let below = is.most in
    let more = bits_below (value_of w + 1) ws (omega arith) n.1 in
    let power = pow_mono is.least in
    omega (arith, more, power, twice (value_of w))

odd : (k : ℕ) → (k * 2 + 1) % 2 ≡ 1
odd k = omega arith

even : (k : ℕ) → k * 2 % 2 ≡ 0
even k = omega arith

later : (v i : ℕ) → i ≤ v → (v == i) ≡ false → i + 1 ≤ v
later v i least past = let apart : v ≡ i → ⊥ = λ is. cc (eq-eqb v i is, past) in omega (arith, apart)

number_none : (low : ℕ) (w : List ℕ) {bound : ℕ} → IsNumberIn bound 15 w → low ≤ value_of w → number_fault low 15 w ≡ None
number_none low w is least = rw (is.number, le-ltb (value_of w) low least, le-ltb 15 (value_of w) is.most) refl

bits_some : (ws : Words) → 0 < length ws → 0 < bits ws
unfolding bits
bits_some [] some = absurd (omega arith)
bits_some (w ∷ ws) some = omega (arith, pow_pos (value_of w))

with_first : (lanes v i b k m : ℕ) → lanes ≡ 2 ^ v + b + m → b ≡ k * 2 ^ (v + 1) → v ≡ i → lanes ≡ (k * 2 + 1) * 2 ^ i + m
with_first lanes v i b k m is more at =
    let power : 2 ^ v ≡ 2 ^ i = ap (λ j. 2 ^ j) at in
    let next : b ≡ k * (2 ^ i * 2) = more ∙ ap (λ j. k * 2 ^ (j + 1)) at ∙ ap (λ p. k * p) (twice i) in
    omega arith

without_first : (lanes i b k m : ℕ) → lanes ≡ b + m → b ≡ k * 2 ^ (i + 1) → lanes ≡ k * 2 * 2 ^ i + m
without_first lanes i b k m is more =
    let next : b ≡ k * (2 ^ i * 2) = more ∙ ap (λ p. k * p) (twice i) in
    omega arith

-- the set without the bits below a lane has that lane where the first word names it
lanes_to : (n i : ℕ) (ws : Words) (m lanes : ℕ) → i + n ≡ 16 → lanes ≡ bits ws + m → m < 2 ^ i → NoFaults (lane_places i ws) ws
    → map decimal (filter (has_lane lanes) (range_with_len i n)) ≡ ws
unfolding bits
lanes_to zero i [] m lanes end is below n = refl
lanes_to zero i (w ∷ ws) m lanes end is below n =
    let in_range = lane_at i w ws n in
    let least = in_range.least in
    let most = in_range.most in
    absurd (omega arith)
lanes_to (suc n) i [] m lanes end is below none =
    let off : has_lane lanes i ≡ false = rw (quotient lanes i m 0 (omega arith) below) refl in
    rw off (lanes_to n (i + 1) [] m lanes (omega arith) is (rw (twice i) (omega arith)) none)
lanes_to (suc n) i (w ∷ ws) m lanes end is below none =
    let in_range = lane_at i w ws none in
    let least = in_range.least in
    elim (cases_Bool (value_of w == i)) [
      | inl here ↦
          let at : value_of w ≡ i = eqb-true (value_of w) i here in
          let more = multiple (value_of w + 1) ws none.1 in
          let whole : lanes ≡ (more.0 * 2 + 1) * 2 ^ i + m = with_first lanes (value_of w) i (bits ws) more.0 m is more.1 at in
          let on : has_lane lanes i ≡ true = rw (quotient lanes i m (more.0 * 2 + 1) whole below, odd more.0) refl in
          let spelled : decimal i ≡ w = ap decimal (sym at) ∙ decimal_value w in_range.number (omega arith) in
          let there : NoFaults (lane_places (i + 1) ws) ws = subst (λ k. NoFaults (lane_places (k + 1) ws) ws) at none.1 in
          let power : 2 ^ value_of w ≡ 2 ^ i = ap (λ j. 2 ^ j) at in
          let sum : lanes ≡ bits ws + (m + 2 ^ i) = omega arith in
          rw (on, spelled, lanes_to n (i + 1) ws (m + 2 ^ i) lanes (omega arith) sum (rw (twice i) (omega arith)) there) refl
      | inr past ↦
          let above : i + 1 ≤ value_of w = later (value_of w) i least past in
          let there : NoFaults (lane_places (i + 1) (w ∷ ws)) (w ∷ ws) = (number_none (i + 1) w in_range above, none.1) in
          let more = multiple (i + 1) (w ∷ ws) there in
          let whole : lanes ≡ more.0 * 2 * 2 ^ i + m = without_first lanes i (bits (w ∷ ws)) more.0 m is more.1 in
          let off : has_lane lanes i ≡ false = rw (quotient lanes i m (more.0 * 2) whole below, even more.0) refl in
          rw off (lanes_to n (i + 1) (w ∷ ws) m lanes (omega arith) is (rw (twice i) (omega arith)) there)
    ]

pub record AreLanes (ws : Words) : Type 0 where
  pub spelled : lane_words (lanes_of ws) ≡ ws
  pub small : lanes_of ws < 2 ^ 16
  pub some : 0 < length ws → 0 < lanes_of ws

pub lanes_are_spelled : (ws : Words) → NoFaults (lane_places 0 ws) ws → AreLanes ws
unfolding all_lanes
lanes_are_spelled ws n =
    let is = bits_are ws in
    let below = bits_below 0 ws (omega arith) n in
    record {
      spelled = lanes_to 16 0 ws 0 (lanes_of ws) (omega arith) (omega (arith, is)) (omega arith) n;
      small = omega (arith, is, below);
      some = λ some. rw is (bits_some ws some);
    }
