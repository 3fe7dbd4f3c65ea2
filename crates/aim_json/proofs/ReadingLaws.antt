-- Which bytes are read as which line.
use Rattle.std.proofs.Common.{◌≡◌, ◌⊎◌, ℕ, List, false, Option, Some, None, Result, Ok, Err, IfOk, refl, sym, ap, ◌∙◌, subst, inl, inr}
use Rattle.std.specs.Str.{IsUtf8, is_utf8}
use Rattle.std.proofs.lemmas.Bool.{cases_Bool}
use Rattle.std.proofs.lemmas.Str.{IsUtf8-from_is_utf8, is_utf8-from_IsUtf8}
use Rattle.serde_json.specs.Data.{Data}
use Rattle.serde_json.specs.Read.{read}
use Rattle.serde_json.specs.Written.{has_float, compact_text}
use Rattle.aim_messages.specs.declared.script.Line.{Line}
use Rattle.aim_messages.specs.declared.script.LineKind.{LineKind}
use Rattle.aim_messages.specs.Lines.{KeepsRanges}
use Rattle.aim_text_lines.specs.Ranges.{IsLine}
use Rattle.aim_text_lines.specs.Reading.{line_at}
use Rattle.aim_text_lines.proofs.LineAgain.{line_again}
use Rattle.aim_text_lines.proofs.LineSpelled.{line_was_spelled}
use Rattle.aim_json.specs.Lines.{json_of, json_text}
use Rattle.aim_json.proofs.Values.{line_is_plain, line_has_no_float}
use Rattle.aim_json.specs.declared.reading.JsonFault.{JsonFault}
use Rattle.aim_json.specs.declared.reading.JsonFault.TheVariants as fault
use Rattle.aim_json.specs.Same.{same}
use Rattle.aim_json.specs.Spelling.{spelled}
use Rattle.aim_json.specs.Reading.{if_its_value, of_candidate, line_of, of_value, json_line_at}
use Rattle.aim_json.proofs.SameLaws.{same_is_equal, plain_is_same}
use Rattle.aim_json.proofs.SpellingLaws.{text_back}

-- ---- one candidate

pub its_value : (version : ℕ) (l : Line) (d : Data) → json_of version l ≡ d → if_its_value version d l ≡ Ok l
its_value version l d e = rw (ap (same (json_of version l)) (sym e) ∙ plain_is_same (json_of version l) (line_is_plain version l)) refl

pub not_its_value : (version : ℕ) (l : Line) (d : Data) → (json_of version l ≡ d → ⊥) → if_its_value version d l ≡ Err fault.Form
not_its_value version l d other = elim (cases_Bool (same (json_of version l) d)) [
  | inl is ↦ absurd (other (same_is_equal (json_of version l) d is))
  | inr not ↦ rw not refl
]

some_is : {A : Type 0} (x y : A) → Some x ≡ Some y → x ≡ y
some_is x y e = cc

-- one text for both values
pub one_text : (version : ℕ) (l : Line) (d : Data) (text : List ℕ) → text ≡ json_text version l → read (json_text version l) ≡ Some (json_of version l) → read text ≡ Some d → json_of version l ≡ d
one_text version l d text is reads back = some_is (json_of version l) d (sym reads ∙ ap read (sym is) ∙ back)

-- one value has one text
pub text_of_value : (version : ℕ) (l : Line) (d : Data) (text : List ℕ) → json_of version l ≡ d → (has_float d ≡ false → text ≡ compact_text d) → text ≡ json_text version l
text_of_value version l d text e is = is (ap has_float (sym e) ∙ line_has_no_float version l) ∙ ap compact_text (sym e)

-- ---- from bytes to their value

pub reads_as : (version : ℕ) (bytes : List ℕ) (d : Data) → IsUtf8 bytes → read bytes ≡ Some d → json_line_at version bytes ≡ line_of version d
reads_as version bytes d utf8 e = rw (is_utf8-from_IsUtf8 bytes utf8, e) refl

pub is_no_text : (version : ℕ) (bytes : List ℕ) → (IsUtf8 bytes → read bytes ≡ None) → json_line_at version bytes ≡ Err fault.Json
is_no_text version bytes none = elim (cases_Bool (is_utf8 bytes)) [
  | inl is ↦ rw (is, none (IsUtf8-from_is_utf8 bytes is)) refl
  | inr not ↦ rw not refl
]

-- ---- from a line to its value and back

pub line_comes_back : (version : ℕ) (l : Line) → IsLine l → KeepsRanges version l → line_of version (json_of version l) ≡ Ok l
line_comes_back version l is keeps =
    ap (of_candidate version (json_of version l)) (ap (line_at version) (text_back version l) ∙ line_again version l is keeps)
    ∙ its_value version l (json_of version l) refl

pub value_is_read : (version : ℕ) (bytes : List ℕ) (l : Line) → IsLine l → KeepsRanges version l → IsUtf8 bytes → read bytes ≡ Some (json_of version l)
    → json_line_at version bytes ≡ Ok l
value_is_read version bytes l is keeps utf8 e = reads_as version bytes (json_of version l) utf8 e ∙ line_comes_back version l is keeps

ok_is : (a b : Line) (r : Result Line JsonFault) → r ≡ Ok a → r ≡ Ok b → a ≡ b
ok_is a b r e f = cc

pub line_has_one_value : (version : ℕ) (a b : Line) → IsLine a → KeepsRanges version a → IsLine b → KeepsRanges version b → json_of version a ≡ json_of version b → a ≡ b
line_has_one_value version a b is keeps is' keeps' e =
    ok_is a b (line_of version (json_of version a)) (line_comes_back version a is keeps) (ap (line_of version) e ∙ line_comes_back version b is' keeps')

-- ---- what was read

-- what is known of a line that was read from a value
abbrev Was : ℕ → Option Data → Line → Type 0
Was version o l = IsLine l × KeepsRanges version l × (o ≡ Some (json_of version l))

no_line : (l : Line) (f : JsonFault) → ◌≡◌ {A = Result Line JsonFault} (Err f) (Ok l) → ⊥
no_line l f e = cc

no_json : ◌≡◌ {A = Result Line JsonFault} (Err fault.Form) (Err fault.Json) → ⊥
no_json e = cc

line_no_json : (l : Line) → ◌≡◌ {A = Result Line JsonFault} (Ok l) (Err fault.Json) → ⊥
line_no_json l e = cc

candidate_was : (version : ℕ) (d : Data) (text : List ℕ) (r : Result Line LineKind) (l : Line) → line_at version text ≡ r → of_candidate version d r ≡ Ok l → Was version (Some d) l
candidate_was version d text (Err k) l e h = absurd (no_line l fault.Form h)
candidate_was version d text (Ok m) l e h = elim (cases_Bool (same (json_of version m) d)) [
  | inl is ↦
      let one : m ≡ l = ok_is m l (Ok m) refl (rw is at h) in
      let was = line_was_spelled version text m e in
      subst (Was version (Some d)) one (was.0, was.1, ap (λ x. Some x) (sym (same_is_equal (json_of version m) d is)))
  | inr not ↦ absurd (no_line l fault.Form (rw not at h))
]

value_was : (version : ℕ) (o : Option Data) (l : Line) → of_value version o ≡ Ok l → Was version o l
value_was version None l h = absurd (no_line l fault.Json h)
value_was version (Some d) l h = candidate_was version d (spelled d) (line_at version (spelled d)) l refl h

pub line_was_read : (version : ℕ) (bytes : List ℕ) (l : Line) → json_line_at version bytes ≡ Ok l
    → IsLine l × KeepsRanges version l × IsUtf8 bytes × (read bytes ≡ Some (json_of version l))
line_was_read version bytes l h = elim (cases_Bool (is_utf8 bytes)) [
  | inl is ↦ let was = value_was version (read bytes) l (rw is at h) in (was.0, was.1, IsUtf8-from_is_utf8 bytes is, was.2)
  | inr not ↦ absurd (no_line l fault.Json (rw not at h))
]

candidate_no_json : (version : ℕ) (d : Data) (r : Result Line LineKind) → of_candidate version d r ≡ Err fault.Json → ⊥
candidate_no_json version d (Err k) h = no_json h
candidate_no_json version d (Ok m) h = elim (cases_Bool (same (json_of version m) d)) [
  | inl is ↦ line_no_json m (rw is at h)
  | inr not ↦ no_json (rw not at h)
]

value_none : (version : ℕ) (o : Option Data) → of_value version o ≡ Err fault.Json → o ≡ None
value_none version None h = refl
value_none version (Some d) h = absurd (candidate_no_json version d (line_at version (spelled d)) h)

pub was_no_text : (version : ℕ) (bytes : List ℕ) → json_line_at version bytes ≡ Err fault.Json → IsUtf8 bytes → read bytes ≡ None
was_no_text version bytes h utf8 = value_none version (read bytes) (rw (is_utf8-from_IsUtf8 bytes utf8) at h)

form_no_json : ◌≡◌ {A = Result Line JsonFault} (Err fault.Json) (Err fault.Form) → ⊥
form_no_json e = cc

value_some : (version : ℕ) (o : Option Data) → of_value version o ≡ Err fault.Form → (d : Data) × (o ≡ Some d)
value_some version None h = absurd (form_no_json h)
value_some version (Some d) h = (d, refl)

-- a value that is no line's
abbrev pub IsNoLines : ℕ → Data → Type 0
IsNoLines version d = (l : Line) → IsLine l → KeepsRanges version l → json_of version l ≡ d → ⊥

form_no_line : (l : Line) (r : Result Line JsonFault) → r ≡ Err fault.Form → r ≡ Ok l → ⊥
form_no_line l r e f = cc

pub was_no_line : (version : ℕ) (bytes : List ℕ) → json_line_at version bytes ≡ Err fault.Form
    → IsUtf8 bytes × (d : Data) × (read bytes ≡ Some d) × IsNoLines version d
was_no_line version bytes h = elim (cases_Bool (is_utf8 bytes)) [
  | inl is ↦
      let utf8 = IsUtf8-from_is_utf8 bytes is in
      let was = value_some version (read bytes) (rw is at h) in
      (utf8, was.0, was.1, λ l is' keeps e. form_no_line l (json_line_at version bytes) h (value_is_read version bytes l is' keeps utf8 (was.1 ∙ ap (λ x. Some x) (sym e))))
  | inr not ↦ absurd (form_no_json (rw not at h))
]

-- ---- what a call's answer says that is the line at the bytes, or tells that memory has run out

abbrev Answers : ℕ → List ℕ → Result Line JsonFault → Type 0
Answers version bytes r = (r ≡ Err fault.NoMemory) ⊎ (r ≡ json_line_at version bytes)

no_memory : (l : Line) → ◌≡◌ {A = Result Line JsonFault} (Ok l) (Err fault.NoMemory) → ⊥
no_memory l e = cc

pub answers_line : (version : ℕ) (bytes : List ℕ) (r : Result Line JsonFault) → Answers version bytes r
    → IfOk r (λ l. IsLine l × KeepsRanges version l × IsUtf8 bytes × (read bytes ≡ Some (json_of version l)))
answers_line version bytes (Ok l) (inl e) = absurd (no_memory l e)
answers_line version bytes (Ok l) (inr e) = line_was_read version bytes l (sym e)
answers_line version bytes (Err f) h = tt

json_no_memory : ◌≡◌ {A = Result Line JsonFault} (Err fault.Json) (Err fault.NoMemory) → ⊥
json_no_memory e = cc

form_no_memory : ◌≡◌ {A = Result Line JsonFault} (Err fault.Form) (Err fault.NoMemory) → ⊥
form_no_memory e = cc

pub answers_no_text : (version : ℕ) (bytes : List ℕ) (r : Result Line JsonFault) → Answers version bytes r → r ≡ Err fault.Json → IsUtf8 bytes → read bytes ≡ None
answers_no_text version bytes r (inl e) is = absurd (json_no_memory (sym is ∙ e))
answers_no_text version bytes r (inr e) is = was_no_text version bytes (sym e ∙ is)

pub answers_no_line : (version : ℕ) (bytes : List ℕ) (r : Result Line JsonFault) → Answers version bytes r → r ≡ Err fault.Form
    → IsUtf8 bytes × (d : Data) × (read bytes ≡ Some d) × IsNoLines version d
answers_no_line version bytes r (inl e) is = absurd (form_no_memory (sym is ∙ e))
answers_no_line version bytes r (inr e) is = was_no_line version bytes (sym e ∙ is)
