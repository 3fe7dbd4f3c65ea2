-- No JSON text that is written has the end of a line in it.
use Rattle.std.proofs.Common.{◌≡◌, ℕ, zero, suc, ◌+◌, ◌==◌, ◌/◌, ◌%◌, ◌||◌, pos, negsuc, List, [], ◌∷◌, ◌++◌, Bool, true, false, cond, decimal, nat_lt, refl, sym, ◌∙◌, inl, inr, arith, subst}
use Rattle.std.specs.Fmt.{digits, digits_onto, digit_glyph}
use Rattle.std.specs.Char.{digit_char}
use Rattle.std.specs.List.{list_any}
use Rattle.std.proofs.lemmas.Bool.{cases_Bool, ne_eqb, eqb-true}
use Rattle.std.proofs.lemmas.List.Folds.{list_any-append}
use Rattle.json.specs.Print.{escape_letter, escape_byte, escape, quoted}
use Rattle.serde_json.specs.Data.{Num, unsigned, negative, float, Data, null, boolean, number, string, array, object, Items, no_items, item, Members, no_members, member}
use Rattle.serde_json.specs.Written.{number_text, comma_if, compact_text, items_text, members_text}
use Rattle.aim_messages.specs.declared.script.Line.{Line}
use Rattle.aim_messages.specs.declared.entries.Entry.{Entry}
use Rattle.aim_messages.specs.Texts.{IsOneLine}
use Rattle.aim_json.specs.Lines.{json_of, json_text}
use Rattle.aim_json.specs.Entries.{entry_json, entry_json_text}

abbrev ends : ℕ → Bool
ends b = b == 10

both_none : (s t : List ℕ) → list_any ends s ≡ false → list_any ends t ≡ false → list_any ends (s ++ t) ≡ false
both_none s t a b = list_any-append ends s t ∙ rw (a, b) refl

-- ---- numbers

glyph : (d : ℕ) → digit_glyph false d == 10 ≡ false
glyph d = elim (cases_Bool (nat_lt d 10)) [
  | inl is ↦ rw is (ne_eqb (48 + d) 10 (λ e. absurd (omega arith)))
  | inr not ↦ rw not (ne_eqb (87 + d) 10 (λ e. absurd (omega arith)))
]

digits_none : (k n : ℕ) (rest : List ℕ) → list_any ends rest ≡ false → list_any ends (digits_onto k 10 false n rest) ≡ false
digits_none zero n rest h = h
digits_none (suc k) n rest h =
    let d = digit_glyph false (n % 10) in
    let more : list_any ends (d ∷ rest) ≡ false = rw (glyph (n % 10)) h in
    elim (cases_Bool (n / 10 == 0)) [
      | inl is ↦ rw is more
      | inr not ↦ rw not (digits_none k (n / 10) (d ∷ rest) more)
    ]

decimal_none : (n : ℕ) → list_any ends (decimal n) ≡ false
unfolding digits
decimal_none n = digits_none 64 n [] refl

number_none : (n : Num) → list_any ends (number_text n) ≡ false
number_none (unsigned n) = decimal_none n
number_none (negative (pos n)) = decimal_none n
number_none (negative (negsuc n)) = decimal_none (suc n)
number_none (float x) = refl

-- ---- texts

hexdigit : (d : ℕ) → digit_char d == 10 ≡ false
hexdigit d = elim (cases_Bool (nat_lt d 10)) [
  | inl is ↦ rw is (ne_eqb (48 + d) 10 (λ e. absurd (omega arith)))
  | inr not ↦ rw not (ne_eqb (87 + d) 10 (λ e. absurd (omega arith)))
]

letter : (quote back form line return tab : Bool) (x : ℕ) → x == 10 ≡ false
    → cond quote x (cond back 98 (cond form 102 (cond line 110 (cond return 114 (cond tab 116 0))))) == 10 ≡ false
letter true back form line return tab x h = h
letter false true form line return tab x h = refl
letter false false true line return tab x h = refl
letter false false false true return tab x h = refl
letter false false false false true tab x h = refl
letter false false false false false true x h = refl
letter false false false false false false x h = refl

other_byte : (x : ℕ) → x == 10 ≡ false → list_any ends (escape_byte x) ≡ false
unfolding escape_byte
other_byte x h = elim (cases_Bool (nat_lt 0 (escape_letter x))) [
  | inl is ↦ rw (is, letter ((x == 34) || (x == 92)) (x == 8) (x == 12) (x == 10) (x == 13) (x == 9) x h) refl
  | inr not ↦ elim (cases_Bool (nat_lt x 32)) [
    | inl low ↦ rw (not, low, hexdigit (x / 16), hexdigit (x % 16)) refl
    | inr high ↦ rw (not, high, h) refl
  ]
]

line_end : list_any ends (escape_byte 10) ≡ false
unfolding escape_byte
line_end = refl

byte_none : (x : ℕ) → list_any ends (escape_byte x) ≡ false
byte_none x = elim (cases_Bool (x == 10)) [
  | inl is ↦ subst (λ b. list_any ends (escape_byte b) ≡ false) (sym (eqb-true x 10 is)) line_end
  | inr not ↦ other_byte x not
]

escape_none : (s : List ℕ) → list_any ends (escape s) ≡ false
escape_none [] = refl
escape_none (x ∷ s) = both_none (escape_byte x) (escape s) (byte_none x) (escape_none s)

quoted_none : (s : List ℕ) → list_any ends (quoted s) ≡ false
quoted_none s = both_none (escape s) (34 ∷ []) (escape_none s) refl

-- ---- values

comma_none : (later : Bool) → list_any ends (comma_if later) ≡ false
comma_none true = refl
comma_none false = refl

mutual
  pub value_is_one_line : (d : Data) → list_any ends (compact_text d) ≡ false
  value_is_one_line null = refl
  value_is_one_line (boolean true) = refl
  value_is_one_line (boolean false) = refl
  value_is_one_line (number n) = number_none n
  value_is_one_line (string s) = quoted_none s
  value_is_one_line (array ds) = items_none false ds
  value_is_one_line (object ms) = members_none false ms

  items_none : (later : Bool) (ds : Items) → list_any ends (items_text later ds) ≡ false
  items_none later no_items = refl
  items_none later (item d ds) =
      both_none (comma_if later) (compact_text d ++ items_text true ds) (comma_none later)
      (both_none (compact_text d) (items_text true ds) (value_is_one_line d) (items_none true ds))

  members_none : (later : Bool) (ms : Members) → list_any ends (members_text later ms) ≡ false
  members_none later no_members = refl
  members_none later (member k d ms) =
      both_none (comma_if later) (quoted k ++ 58 ∷ (compact_text d ++ members_text true ms)) (comma_none later)
      (both_none (quoted k) (58 ∷ (compact_text d ++ members_text true ms)) (quoted_none k)
      (both_none (compact_text d) (members_text true ms) (value_is_one_line d) (members_none true ms)))

pub line_is_one_line : (version : ℕ) (l : Line) → IsOneLine (json_text version l)
line_is_one_line version l = value_is_one_line (json_of version l)

pub entry_is_one_line : (position : ℕ) (e : Entry) → IsOneLine (entry_json_text position e)
entry_is_one_line position e = value_is_one_line (entry_json position e)
