-- Words have no fault of the kind `Unknown`.
use Rattle.std.proofs.Common.{◌≡◌, ℕ, Bool, true, false, not, ◌||◌, nat_lt, List, [], ◌∷◌, Option, Some, None, Result, Ok, Err, refl, ap}
use Rattle.std.specs.Prelude.{if◌then◌else◌}
use Rattle.std.specs.Option.{option_or}
use Rattle.aim_messages.specs.declared.script.LineKind.{LineKind}
use Rattle.aim_messages.specs.declared.script.LineKind.TheVariants as kind
use Rattle.aim_messages.specs.Texts.{Words}
use Rattle.aim_text_words.specs.Faults.{Place, chosen, keyword, name, number, either, rest, words_of, is_number, value_of, is_one_of, is_name, begins_with_digit, keyword_fault, number_fault, word_fault, fault_at, first_fault, behind, surplus_fault, text_fault}
use Rattle.aim_text_words.specs.Reading.{at, unless}
use Rattle.aim_text_entries.specs.Entries.{entry_places, entry_of, entry_at}

abbrev is_unknown : Option LineKind → Bool
is_unknown None = false
is_unknown (Some kind.Words) = false
is_unknown (Some kind.Number) = false
is_unknown (Some kind.Range) = false
is_unknown (Some kind.Unknown) = true

keyword_known : (allowed : Bool) → is_unknown (keyword_fault allowed) ≡ false
keyword_known true = refl
keyword_known false = refl

number_known : (low high : ℕ) (w : List ℕ) → is_unknown (number_fault low high w) ≡ false
number_known low high w = by_tests (is_number w) (nat_lt (value_of w) low) (nat_lt high (value_of w))
  where
    by_tests : (number below above : Bool) → is_unknown (if not number then Some kind.Number else if below || above then Some kind.Range else None) ≡ false
    by_tests false below above = refl
    by_tests true true above = refl
    by_tests true false true = refl
    by_tests true false false = refl

either_known : (allowed digit : Bool) (fault : Option LineKind) → is_unknown fault ≡ false → is_unknown (if allowed then None else if digit then fault else Some kind.Words) ≡ false
either_known true digit fault known = refl
either_known false true fault known = known
either_known false false fault known = refl

word_known : (p : Place) (w : List ℕ) → is_unknown (word_fault p w) ≡ false
word_known chosen w = refl
word_known (keyword words) w = keyword_known (is_one_of words w)
word_known name w = keyword_known (is_name w)
word_known (number low high) w = number_known low high w
word_known (either words low high) w = either_known (is_one_of words w) (begins_with_digit w) (number_fault low high w) (number_known low high w)

place_known : (p : Place) (ws : Words) → is_unknown (fault_at p ws) ≡ false
place_known chosen ws = refl
place_known (keyword words) [] = refl
place_known name [] = refl
place_known (number low high) [] = refl
place_known (either words low high) [] = refl
place_known (keyword words) (w ∷ ws) = word_known (keyword words) w
place_known name (w ∷ ws) = word_known name w
place_known (number low high) (w ∷ ws) = word_known (number low high) w
place_known (either words low high) (w ∷ ws) = word_known (either words low high) w

or_known : (a b : Option LineKind) → is_unknown a ≡ false → is_unknown b ≡ false → is_unknown (option_or a b) ≡ false
or_known None b known_a known_b = known_b
or_known (Some k) b known_a known_b = known_a

first_known : (ps : List Place) (ws : Words) → is_unknown (first_fault ps ws) ≡ false
first_known [] ws = refl
first_known (p ∷ ps) ws = or_known (fault_at p ws) (first_fault ps (rest ws)) (place_known p ws) (first_known ps (rest ws))

surplus_known : (ws : Words) → is_unknown (surplus_fault ws) ≡ false
surplus_known [] = refl
surplus_known (w ∷ ws) = refl

text_known : (ps : List Place) (ws : Words) → is_unknown (text_fault ps ws) ≡ false
text_known ps ws = or_known (first_fault ps ws) (surplus_fault (behind ps ws)) (first_known ps ws) (surplus_known (behind ps ws))

pub entry_known : (bytes : List ℕ) → entry_at bytes ≡ Err kind.Unknown → ⊥
entry_known bytes h =
    let ws : Words = words_of bytes in
    by_fault (at ws 0, entry_of ws) (text_fault (entry_places ws) ws) (text_known (entry_places ws) ws) h
  where
    kind_in : {A : Type 0} → Result A LineKind → Option LineKind
    kind_in (Ok a) = None
    kind_in (Err k) = Some k

    by_fault : {A : Type 0} (a : A) (fault : Option LineKind) → is_unknown fault ≡ false → unless a fault ≡ Err kind.Unknown → ⊥
    by_fault a None known h = cc
    by_fault a (Some k) known h = let is : is_unknown (Some k) ≡ true = ap (λ r. is_unknown (kind_in r)) h in cc
