-- What may stand in the places of a text, and which word is the first that may not stand in its place.
use Rattle.std.specs.Prelude.{ℕ, zero, suc, ◌+◌, ◌-◌, ◌*◌, ◌==◌, Bool, false, List, [], ◌∷◌, length, Option, Some, None, codes, nat_lt, nat_le, not, ◌&&◌, ◌||◌, if◌then◌else◌, bytes_eq}
use Rattle.std.specs.List.{list_all, list_any, slice_split}
use Rattle.std.specs.Option.{option_or}
use Rattle.aim_messages.specs.declared.script.LineKind.{LineKind}
use Rattle.aim_messages.specs.declared.script.LineKind.TheVariants as kind
use Rattle.aim_messages.specs.Texts.{Words}
use Rattle.aim_messages.specs.Lines.{is_name_byte}

-- the words between the spaces
abbrev pub words_of : List ℕ → Words
words_of bytes = slice_split (λ b. b == 32) bytes

-- the first word, which is empty where there is none
abbrev pub first : Words → List ℕ
first [] = []
first (w ∷ ws) = w

-- the words behind the first
abbrev pub rest : Words → Words
rest [] = []
rest (w ∷ ws) = ws

-- the words from that place on
abbrev pub from : ℕ → Words → Words
from zero words = words
from (suc i) words = from i (rest words)

-- the word at that place, which is empty where there is none
abbrev pub word_at : Words → ℕ → List ℕ
word_at words i = first (from i words)

-- what may stand in a place: any word (that is the word by which the form of the text was chosen), one of some
-- words, a name, a number within bounds, or one of some words or a number within bounds
pub data Place : Type 0 where
  chosen : Place
  keyword : Words → Place
  name : Place
  number : ℕ → ℕ → Place
  either : Words → ℕ → ℕ → Place

abbrev pub is_digit : ℕ → Bool
is_digit b = nat_le 48 b && nat_le b 57

abbrev pub begins_with_digit : List ℕ → Bool
begins_with_digit [] = false
begins_with_digit (b ∷ bs) = is_digit b

-- whether the word is a number's decimal text: digits, and no 0 before others
abbrev pub is_number : List ℕ → Bool
is_number [] = false
is_number (b ∷ []) = is_digit b
is_number (b ∷ c ∷ bs) = not (b == 48) && list_all is_digit (b ∷ c ∷ bs)

-- the number that the digits write when they follow those of n
abbrev pub value_after : ℕ → List ℕ → ℕ
value_after n [] = n
value_after n (b ∷ bs) = value_after (10 * n + (b - 48)) bs

-- the number that the digits write
abbrev pub value_of : List ℕ → ℕ
value_of word = value_after 0 word

abbrev pub is_one_of : Words → List ℕ → Bool
is_one_of words word = list_any (bytes_eq word) words

abbrev pub is_name : List ℕ → Bool
is_name word = nat_lt 0 (length word) && nat_le (length word) 16 && list_all is_name_byte word

abbrev pub keyword_fault : Bool → Option LineKind
keyword_fault allowed = if allowed then None else Some kind.Words

abbrev pub number_fault : ℕ → ℕ → List ℕ → Option LineKind
number_fault low high word =
    if not (is_number word) then Some kind.Number
    else if nat_lt (value_of word) low || nat_lt high (value_of word) then Some kind.Range
    else None

-- why the word may not stand in the place, if it may not
abbrev pub word_fault : Place → List ℕ → Option LineKind
word_fault chosen word = None
word_fault (keyword words) word = keyword_fault (is_one_of words word)
word_fault name word = keyword_fault (is_name word)
word_fault (number low high) word = number_fault low high word
word_fault (either words low high) word =
    if is_one_of words word then None else if begins_with_digit word then number_fault low high word else Some kind.Words

-- why the first word may not stand in the place, if it may not: a word that is missing may stand nowhere
abbrev pub fault_at : Place → Words → Option LineKind
fault_at chosen words = None
fault_at p [] = Some kind.Words
fault_at p (w ∷ ws) = word_fault p w

-- the first fault from the left of the words that have a place
abbrev pub first_fault : List Place → Words → Option LineKind
first_fault [] words = None
first_fault (p ∷ ps) words = option_or (fault_at p words) (first_fault ps (rest words))

-- the words behind those that have a place
abbrev pub behind : List Place → Words → Words
behind [] words = words
behind (p ∷ ps) words = behind ps (rest words)

-- the fault of a word that has no place
abbrev pub surplus_fault : Words → Option LineKind
surplus_fault [] = None
surplus_fault (w ∷ ws) = Some kind.Words

-- the first fault from the left: each place wants its word, and each word its place
abbrev pub text_fault : List Place → Words → Option LineKind
text_fault ps words = option_or (first_fault ps words) (surplus_fault (behind ps words))

-- a number of 32 bits
abbrev pub number32 : Place
number32 = number 0 4294967295

-- a number of a byte
abbrev pub number8 : Place
number8 = number 0 255

-- a number of 32 bits above that one
abbrev pub later_than : ℕ → Place
later_than step = number (step + 1) 4294967295

-- the place of one word
abbrev pub just : List ℕ → Place
just word = keyword (word ∷ [])

abbrev pub turns : Place
turns = keyword (codes "left" ∷ codes "straight" ∷ codes "right" ∷ [])

abbrev pub classes : Place
classes = keyword (codes "car" ∷ codes "emergency" ∷ [])
