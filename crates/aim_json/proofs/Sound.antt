-- A value whose numbers are below 2 ^ 64 and whose texts are UTF-8 is read again from the text that is written for it.
use Rattle.std.proofs.Common.{◌≡◌, ℕ, ◌<◌, ◌≤◌, ◌^◌, List, [], ◌∷◌, ◌++◌, Bool, true, false, Option, Some, option_map, option_and_then, refl, sym, ap, ◌∙◌, append-nil}
use Rattle.std.specs.Str.{IsUtf8}
use Rattle.std.proofs.lemmas.Str.{IsUtf8-append, IsUtf8-from_ascii, IsUtf8-nil}
use Rattle.std.proofs.lemmas.Fmt.{IsAscii-decimal}
use Rattle.json.specs.Json as json
use Rattle.json.specs.Lex.{tokens}
use Rattle.json.specs.Print.{quoted}
use Rattle.json.specs.Token.{Token}
use Rattle.json.specs.Tree.{json_tokens, HasNumbers, ItemsHaveNumbers, MembersHaveNumbers}
use Rattle.json.specs.Tree as tree
use Rattle.json.proofs.Printed.Trees.{value-json_tokens, ArePrintable-json_tokens}
use Rattle.json.proofs.Printed.Tokens.{tokens-print}
use Rattle.json.proofs.Printed.Decimals.{IsNumber-decimal}
use Rattle.json.proofs.Printed.Utf8.{are_ascii, IsUtf8-are_ascii, IsUtf8-quoted}
use Rattle.serde_json.specs.Data.{Num, unsigned, negative, float, Data, null, boolean, number, string, array, object, Items, no_items, item, Members, no_members, member, put, depth, items_depth, members_depth}
use Rattle.serde_json.specs.Read.{read, max_depth, of_json, of_items, of_members}
use Rattle.serde_json.specs.Written.{comma_if, compact_text, items_text, members_text, outline, items_outline, members_outline}
use Rattle.serde_json.proofs.Numbers.{number_of-decimal}
use Rattle.serde_json.proofs.Texts.{print-outline}

-- the members put in one after the other
abbrev pub rebuilt : Members → Members → Members
rebuilt no_members found = found
rebuilt (member k d ms) found = rebuilt ms (put k d found)

abbrev pub IsSoundNumber : Num → Type 0
IsSoundNumber (unsigned n) = n < 2 ^ 64
IsSoundNumber (negative z) = ⊥
IsSoundNumber (float x) = ⊥

-- Numbers from 0 on that fit 64 bits, texts that are UTF-8, and members in order.
abbrev mutual
  pub IsSound : Data → Type 0
  IsSound null = ⊥
  IsSound (boolean b) = ⊥
  IsSound (number n) = IsSoundNumber n
  IsSound (string s) = IsUtf8 s
  IsSound (array ds) = AreSound ds
  IsSound (object ms) = HaveSound ms × (rebuilt ms no_members ≡ ms)

  pub AreSound : Items → Type 0
  AreSound no_items = Unit {0}
  AreSound (item d ds) = IsSound d × AreSound ds

  pub HaveSound : Members → Type 0
  HaveSound no_members = Unit {0}
  HaveSound (member k d ms) = (are_ascii k ≡ true) × (IsSound d × HaveSound ms)

mutual
  numbers : (d : Data) → IsSound d → HasNumbers (outline d)
  numbers null h = absurd h
  numbers (boolean b) h = absurd h
  numbers (number (unsigned n)) h = IsNumber-decimal n h
  numbers (number (negative z)) h = absurd h
  numbers (number (float x)) h = absurd h
  numbers (string s) h = tt
  numbers (array ds) h = numbers_in ds h
  numbers (object ms) h = numbers_of ms h.0

  numbers_in : (ds : Items) → AreSound ds → ItemsHaveNumbers (items_outline ds)
  numbers_in no_items h = tt
  numbers_in (item d ds) h = (numbers d h.0, numbers_in ds h.1)

  numbers_of : (ms : Members) → HaveSound ms → MembersHaveNumbers (members_outline ms)
  numbers_of no_members h = tt
  numbers_of (member k d ms) h = (numbers d h.1.0, numbers_of ms h.1.1)

mutual
  same_depth : (d : Data) → tree.depth (outline d) ≡ depth d
  same_depth null = refl
  same_depth (boolean b) = refl
  same_depth (number n) = refl
  same_depth (string s) = refl
  same_depth (array ds) = rw (same_items_depth ds) refl
  same_depth (object ms) = rw (same_members_depth ms) refl

  same_items_depth : (ds : Items) → tree.items_depth (items_outline ds) ≡ items_depth ds
  same_items_depth no_items = refl
  same_items_depth (item d ds) = rw (same_depth d, same_items_depth ds) refl

  same_members_depth : (ms : Members) → tree.members_depth (members_outline ms) ≡ members_depth ms
  same_members_depth no_members = refl
  same_members_depth (member k d ms) = rw (same_depth d, same_members_depth ms) refl

mutual
  back : (d : Data) → IsSound d → of_json (outline d) ≡ Some d
  back null h = absurd h
  back (boolean b) h = absurd h
  back (number (unsigned n)) h = rw (number_of-decimal n h) refl
  back (number (negative z)) h = absurd h
  back (number (float x)) h = absurd h
  back (string s) h = refl
  back (array ds) h = rw (items_back ds h) refl
  back (object ms) h = ap (option_map object) (members_back ms no_members h.0) ∙ ap (λ found. Some (object found)) h.1

  items_back : (ds : Items) → AreSound ds → of_items (items_outline ds) ≡ Some ds
  items_back no_items h = refl
  items_back (item d ds) h = rw (back d h.0, items_back ds h.1) refl

  members_back : (ms found : Members) → HaveSound ms → of_members (members_outline ms) found ≡ Some (rebuilt ms found)
  members_back no_members found h = refl
  members_back (member k d ms) found h = rw (back d h.1.0) (members_back ms (put k d found) h.1.1)

abbrev whole : Option (json.Json × List Token) → Option Data
whole o = option_and_then of_json (option_and_then (λ p. json.if_last p.0 p.1) o)

pub sound_reads : (d : Data) → IsSound d → depth d ≤ max_depth → read (compact_text d) ≡ Some d
sound_reads d h shallow =
    let j = outline d in
    let same : tokens (compact_text d) ≡ json_tokens j = ap tokens (sym (print-outline d)) ∙ tokens-print (json_tokens j) (ArePrintable-json_tokens j (numbers d h)) in
    ap whole (ap (json.value max_depth) (same ∙ sym (append-nil _)) ∙ value-json_tokens j max_depth [] (rw (same_depth d) shallow)) ∙ back d h

-- ---- UTF-8

one_byte : (b : ℕ) (text : List ℕ) → are_ascii (b ∷ []) ≡ true → IsUtf8 text → IsUtf8 (b ∷ text)
one_byte b text small h = IsUtf8-append (b ∷ []) text (IsUtf8-are_ascii (b ∷ []) small) h

comma : (later : Bool) → IsUtf8 (comma_if later)
comma true = IsUtf8-are_ascii (44 ∷ []) refl
comma false = IsUtf8-nil

mutual
  pub sound_is_utf8 : (d : Data) → IsSound d → IsUtf8 (compact_text d)
  sound_is_utf8 null h = absurd h
  sound_is_utf8 (boolean b) h = absurd h
  sound_is_utf8 (number (unsigned n)) h = IsUtf8-from_ascii _ (IsAscii-decimal n h)
  sound_is_utf8 (number (negative z)) h = absurd h
  sound_is_utf8 (number (float x)) h = absurd h
  sound_is_utf8 (string s) h = IsUtf8-quoted s h
  sound_is_utf8 (array ds) h = one_byte 91 (items_text false ds) refl (items_are_utf8 false ds h)
  sound_is_utf8 (object ms) h = one_byte 123 (members_text false ms) refl (members_are_utf8 false ms h.0)

  items_are_utf8 : (later : Bool) (ds : Items) → AreSound ds → IsUtf8 (items_text later ds)
  items_are_utf8 later no_items h = IsUtf8-are_ascii (93 ∷ []) refl
  items_are_utf8 later (item d ds) h =
      IsUtf8-append (comma_if later) (compact_text d ++ items_text true ds) (comma later)
      (IsUtf8-append (compact_text d) (items_text true ds) (sound_is_utf8 d h.0) (items_are_utf8 true ds h.1))

  members_are_utf8 : (later : Bool) (ms : Members) → HaveSound ms → IsUtf8 (members_text later ms)
  members_are_utf8 later no_members h = IsUtf8-are_ascii (125 ∷ []) refl
  members_are_utf8 later (member k d ms) h =
      IsUtf8-append (comma_if later) (quoted k ++ 58 ∷ (compact_text d ++ members_text true ms)) (comma later)
      (IsUtf8-append (quoted k) (58 ∷ (compact_text d ++ members_text true ms)) (IsUtf8-quoted k (IsUtf8-are_ascii k h.0))
      (one_byte 58 (compact_text d ++ members_text true ms) refl
      (IsUtf8-append (compact_text d) (members_text true ms) (sound_is_utf8 d h.1.0) (members_are_utf8 true ms h.1.1))))
