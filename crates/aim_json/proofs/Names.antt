-- A name is a text.
use Rattle.std.proofs.Common.{◌≡◌, ℕ, ◌<◌, ◌≤◌, ◌&&◌, List, [], ◌∷◌, take, true, nat_le, inl, inr, arith}
use Rattle.std.specs.List.{All, list_all}
use Rattle.std.specs.Str.{IsUtf8}
use Rattle.std.proofs.lemmas.Bool.{and_parts, cases_Bool, leb-true, eqb-true}
use Rattle.std.proofs.lemmas.List.Elements.{All-cons, All-nil}
use Rattle.std.proofs.lemmas.Str.{IsUtf8-from_ascii}
use Rattle.std.proofs.lemmas.Str.Ascii.{IsAscii-from_all}
use Rattle.aim_messages.specs.declared.script.Name.{Name}
use Rattle.aim_messages.specs.Lines.{is_name_byte, IsName}

-- no byte of a name is behind `z`
small : (b : ℕ) → is_name_byte b ≡ true → b < 128
small b h = elim (cases_Bool (nat_le 97 b && nat_le b 122)) [
  | inl letter ↦ let most : b ≤ 122 = leb-true b 122 (and_parts (nat_le 97 b) (nat_le b 122) letter).1 in omega arith
  | inr no_letter ↦ elim (cases_Bool (nat_le 48 b && nat_le b 57)) [
    | inl digit ↦ let most : b ≤ 57 = leb-true b 57 (and_parts (nat_le 48 b) (nat_le b 57) digit).1 in omega arith
    | inr no_digit ↦ let dash : b ≡ 45 = eqb-true b 45 (rw (no_letter, no_digit) at h) in omega arith
  ]
]

name_bytes : (bs : List ℕ) → list_all is_name_byte bs ≡ true → All (λ b. b < 128) bs
name_bytes [] h = All-nil (λ b. b < 128)
name_bytes (b ∷ bs) h =
    let both = and_parts (is_name_byte b) (list_all is_name_byte bs) h in
    All-cons (λ n. n < 128) b bs (small b both.0) (name_bytes bs both.1)

pub name_is_utf8 : (name : Name) → IsName name → IsUtf8 (take name.len name.bytes)
name_is_utf8 name h = IsUtf8-from_ascii _ (IsAscii-from_all _ (name_bytes (take name.len name.bytes) h.bytes))
