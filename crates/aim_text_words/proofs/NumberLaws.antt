-- Numbers and the digits that write them.
use Rattle.std.proofs.Common.{◌≡◌, ℕ, zero, suc, ◌+◌, ◌-◌, ◌*◌, ◌^◌, ◌<◌, ◌≤◌, Bool, true, false, not, ◌||◌, ◌==◌, nat_lt, nat_le, cond, if◌then◌else◌, Option, Result, Ok, Err, ◌∙◌, List, [], ◌∷◌, length, get_or, drop, Some, None, decimal, refl, arith, rules, inl, inr}
use Rattle.std.specs.List.{list_all}
use Rattle.std.proofs.lemmas.Bool.{and_parts, cases_Bool, eqb-true, eq-eqb, le-ltb, ltb-false, ltb-true, leb-true, lt-ltb, ne_eqb}
use Rattle.std.proofs.lemmas.Str.Parse.{IsNumeralModel, numerals_by_fold}
use Rattle.std.proofs.lemmas.Fmt.{digits_decimal, decimal_nonempty, decimal_digit, first_decimal, digits_value-decimal, decimal-digits_value}
use Rattle.aim_messages.specs.declared.script.LineKind.{LineKind}
use Rattle.aim_messages.specs.declared.script.LineKind.TheVariants as kind
use Rattle.aim_text_words.specs.Faults.{is_digit, is_number, begins_with_digit, value_after, value_of, number_fault}
use Rattle.std.specs.Prelude.{bytes_eq}

-- behind the space, so neither a space nor the end of a line
abbrev pub is_visible : ℕ → Bool
is_visible b = nat_lt 32 b

-- digits that follow make it no smaller
pub value_grows : (n : ℕ) (digits : List ℕ) → n ≤ value_after n digits
value_grows n [] = omega arith
value_grows n (b ∷ digits) = omega (arith, value_grows (10 * n + (b - 48)) digits)

-- a number that doesn't fit is too great, if all that follows are digits
pub too_great_is : (word digits : List ℕ) (value high b : ℕ) (rest : List ℕ) (r : Result ℕ LineKind) → digits ≡ b ∷ rest → list_all is_digit word ≡ list_all is_digit digits → value_after value digits ≡ value_of word
    → is_digit b ≡ true → high < 10 * value + (b - 48) → r ≡ (if list_all is_digit rest then Err kind.Range else Err kind.Number)
    → r ≡ (if list_all is_digit word then (if nat_lt high (value_of word) then Err kind.Range else Ok (value_of word)) else Err kind.Number)
too_great_is word digits value high b rest r is all same digit above came =
    let grown : 10 * value + (b - 48) ≤ value_after (10 * value + (b - 48)) rest = value_grows (10 * value + (b - 48)) rest in
    let value_is : value_after (10 * value + (b - 48)) rest ≡ value_of word = rw is at same in
    let digits_are : list_all is_digit word ≡ list_all is_digit rest = all ∙ rw is (rw digit refl) in
    rw (digits_are, lt-ltb high (value_of word) (omega (arith, above, grown, value_is))) came

pub first_and_rest : (digits : List ℕ) → 1 ≤ length digits → digits ≡ get_or digits 0 0 ∷ drop 1 digits
first_and_rest [] some = absurd (omega (arith, some))
first_and_rest (b ∷ digits) some = refl

-- what was too great for a number of 64 bits
pub none_above : (value b high : ℕ) (r : Option ℕ) → high ≤ 18446744073709551615 → r ≡ (if nat_lt 18446744073709551615 (10 * value + (b - 48)) then None else Some (10 * value + (b - 48))) → r ≡ None → high < 10 * value + (b - 48)
none_above value b high r most is none = by (nat_lt 18446744073709551615 (10 * value + (b - 48))) refl
  where
    by : (over : Bool) → nat_lt 18446744073709551615 (10 * value + (b - 48)) ≡ over → high < 10 * value + (b - 48)
    by true over = let above = ltb-true _ _ over in omega (arith, above, most)
    by false over = absurd (cc (is, none, over))

-- the digits and their value as a numeral
numerals : IsNumeralModel (λ ds. list_all is_digit ds ≡ true) value_of
numerals = numerals_by_fold _ (search rules) value_after (search rules)

-- digits, of which the first is no 0 before others
pub record IsNumber (w : List ℕ) : Type 0 where
  pub digits : list_all is_digit w ≡ true
  pub some : 0 < length w
  pub lead : get_or w 0 0 ≡ 48 → length w ≡ 1

is_number_from : (w : List ℕ) → IsNumber w → is_number w ≡ true
is_number_from [] is = absurd (omega (arith, is.some))
is_number_from (b ∷ []) is = (and_parts (is_digit b) true is.digits).0
is_number_from (b ∷ c ∷ bs) is = elim (cases_Bool (b == 48)) [
  | inl nought ↦ absurd (omega (arith, is.lead (eqb-true b 48 nought)))
  | inr other ↦ rw (other) is.digits
]

pub is_number_to : (w : List ℕ) → is_number w ≡ true → IsNumber w
is_number_to [] h = absurd cc
is_number_to (b ∷ []) h = record { digits = rw h refl; some = omega arith; lead = λ nought. refl }
is_number_to (b ∷ c ∷ bs) h = elim (cases_Bool (b == 48)) [
  | inl nought ↦ absurd (cc (rw nought at h))
  | inr other ↦ record { digits = rw other at h; some = omega arith; lead = λ nought. absurd (cc (eq-eqb b 48 nought, other)) }
]

pub decimal_number : (n : ℕ) → n < 2 ^ 64 → is_number (decimal n) ≡ true
decimal_number n small = is_number_from (decimal n) (record {
  digits = digits_decimal numerals n small;
  some = decimal_nonempty n small;
  lead = lead n small;
})
  where
    lead : (n : ℕ) → n < 2 ^ 64 → get_or (decimal n) 0 0 ≡ 48 → length (decimal n) ≡ 1
    lead zero small is = rw (decimal_digit 0 (omega arith)) refl
    lead (suc n) small is = absurd (omega (arith, first_decimal (suc n) (omega arith) small))

pub value_decimal : (n : ℕ) → n < 2 ^ 64 → value_of (decimal n) ≡ n
value_decimal n small = digits_value-decimal numerals n small

-- a number within the bounds has no fault
pub number_good : (low high n : ℕ) → low ≤ n → n ≤ high → n < 2 ^ 64 → number_fault low high (decimal n) ≡ None
number_good low high n least most small =
    rw (decimal_number n small, value_decimal n small, le-ltb n low least, le-ltb high n most) refl

-- and a word without fault is a number within the bounds
pub record IsNumberIn (low high : ℕ) (w : List ℕ) : Type 0 where
  pub number : is_number w ≡ true
  pub least : low ≤ value_of w
  pub most : value_of w ≤ high

pub number_in_from : (low high : ℕ) (w : List ℕ) → number_fault low high w ≡ None → IsNumberIn low high w
number_in_from low high w h = by_tests (is_number w) refl (nat_lt (value_of w) low) refl (nat_lt high (value_of w)) refl h
  where
    by_tests : (number : Bool) → is_number w ≡ number → (below : Bool) → nat_lt (value_of w) low ≡ below → (above : Bool) → nat_lt high (value_of w) ≡ above
        → cond (not number) (Some kind.Number) (cond (below || above) (Some kind.Range) None) ≡ None → IsNumberIn low high w
    by_tests false n below b above a h = absurd cc
    by_tests true n true b above a h = absurd cc
    by_tests true n false b true a h = absurd cc
    by_tests true n false b false a h = record { number = n; least = ltb-false _ _ b; most = ltb-false _ _ a }

pub decimal_value : (w : List ℕ) → is_number w ≡ true → value_of w < 2 ^ 64 → decimal (value_of w) ≡ w
decimal_value w h small = let is = is_number_to w h in decimal-digits_value numerals w is.digits is.some is.lead small

-- a digit is no space
pub digits_visible : (w : List ℕ) → list_all is_digit w ≡ true → list_all is_visible w ≡ true
digits_visible [] h = refl
digits_visible (b ∷ w) h =
    let digit : is_digit b ≡ true = (and_parts (is_digit b) (list_all is_digit w) h).0 in
    rw (digit_visible b digit, digits_visible w ((and_parts (is_digit b) (list_all is_digit w) h).1)) refl
  where
    digit_visible : (b : ℕ) → is_digit b ≡ true → is_visible b ≡ true
    digit_visible b h =
        let least : 48 ≤ b = leb-true 48 b (and_parts (nat_le 48 b) (nat_le b 57) h).0 in
        lt-ltb 32 b (omega arith)

pub decimal_visible : (n : ℕ) → n < 2 ^ 64 → list_all is_visible (decimal n) ≡ true
decimal_visible n small = digits_visible (decimal n) (is_number_to (decimal n) (decimal_number n small)).digits

pub number_begins : (w : List ℕ) → is_number w ≡ true → begins_with_digit w ≡ true
number_begins [] h = h
number_begins (b ∷ []) h = h
number_begins (b ∷ c ∷ bs) h = let is = is_number_to (b ∷ c ∷ bs) h in (and_parts (is_digit b) (list_all is_digit (c ∷ bs)) is.digits).0

-- a word that begins with a digit is none that begins with a letter
pub not_letter : (w : List ℕ) (letter : ℕ) (more : List ℕ) → begins_with_digit w ≡ true → 57 < letter → bytes_eq w (letter ∷ more) ≡ false
not_letter [] letter more digit above = absurd cc
not_letter (b ∷ bs) letter more digit above =
    let most : b ≤ 57 = leb-true b 57 (and_parts (nat_le 48 b) (nat_le b 57) digit).1 in
    rw (ne_eqb b letter (λ is. absurd (omega (arith, is)))) refl
