-- Tables of words.
use Rattle.std.proofs.Common.{◌≡◌, ℕ, ◌+◌, ◌<◌, List, [], ◌∷◌, ◌++◌, map, length, drop, get_or, Bool, true, false, Result, Ok, refl, inl, inr, sym, ap, subst, ◌∙◌}
use Rattle.std.specs.Prelude.{bytes_eq, codes, if◌then◌else◌}
use Rattle.std.specs.Borrow.{Bor}
use Rattle.std.proofs.lemmas.Bool.{cases_Bool}
use Rattle.std.proofs.lemmas.Slice.Eq.{bytes_eq-Decides}
use Rattle.std.proofs.lemmas.List.{at_drop_more}
use Rattle.aim_messages.specs.declared.messages.Turn.{Turn}
use Rattle.aim_messages.specs.declared.messages.Turn.TheVariants as turn
use Rattle.aim_messages.specs.declared.script.LineKind.{LineKind}
use Rattle.aim_messages.specs.declared.script.LineKind.TheVariants as kind
use Rattle.aim_messages.specs.Texts.{Words}
use Rattle.aim_text_words.specs.Faults.{keyword, turns, classes, keyword_fault, is_one_of}
use Rattle.aim_text_words.specs.Tables.{look_up, rows_of}
use Rattle.aim_text_words.specs.Reading.{unless, turn_of, is_emergency}
use Rattle.aim_text_words.specs.Steps.{Gives, with_rest, read_in, choice_in}

-- the row at a place has the word
pub row_has : {F : Type 0} (fault : LineKind) (rows : List (Bor (List ℕ) × F)) (word : List ℕ) (i : ℕ) (row : Bor (List ℕ) × F)
    → i < length rows → row ≡ get_or rows i row → bytes_eq word row.0.now ≡ true → look_up fault (rows_of (drop i rows)) word ≡ Ok row.1
row_has fault rows word i row below is has =
    at_drop_more (λ xs. look_up fault (rows_of xs) word) rows i row below
    ∙ ap (λ x. look_up fault (rows_of (x ∷ drop (i + 1) rows)) word) (sym is)
    ∙ (rw has refl)

-- the row at a place has another
pub row_passed : {F : Type 0} (fault : LineKind) (rows : List (Bor (List ℕ) × F)) (word : List ℕ) (i : ℕ) (row : Bor (List ℕ) × F)
    → i < length rows → row ≡ get_or rows i row → bytes_eq word row.0.now ≡ false
    → look_up fault (rows_of (drop i rows)) word ≡ look_up fault (rows_of (drop (i + 1) rows)) word
row_passed fault rows word i row below is not =
    at_drop_more (λ xs. look_up fault (rows_of xs) word) rows i row below
    ∙ ap (λ x. look_up fault (rows_of (x ∷ drop (i + 1) rows)) word) (sym is)
    ∙ (rw not refl)

-- what the row of the word says, or another thing where no row has it
abbrev said_by : {F : Type 0} → F → List (List ℕ × F) → List ℕ → F
said_by other [] word = other
said_by other (row ∷ rows) word = if bytes_eq word row.0 then row.1 else said_by other rows word

-- a word in no row is at fault. The definitions have what the last row says for any word that isn't in those before
pub said : {F : Type 0} (rows : List (List ℕ × F)) (last : List ℕ × F) (word : List ℕ)
    → look_up kind.Words (rows ++ last ∷ []) word ≡ unless (said_by last.1 rows word) (keyword_fault (is_one_of (map (λ (row : List ℕ × F). row.0) rows ++ last.0 ∷ []) word))
said [] last word = elim (cases_Bool (bytes_eq word last.0)) [
  | inl is ↦ rw is refl
  | inr not ↦ rw not refl
]
said (row ∷ rows) last word = elim (cases_Bool (bytes_eq word row.0)) [
  | inl is ↦ rw is refl
  | inr not ↦ rw not (said rows last word)
]

-- A word that is chosen by a table is read as the definitions say, where they say of each word what the table says. Here
-- r is what a function answered, and left the words that it left.
pub choice_read : {A : Type 0} (rows : List (List ℕ × A)) (words : Words) (value : List ℕ → A)
    → ((word : List ℕ) → look_up kind.Words rows word ≡ unless (value word) (keyword_fault (is_one_of words word)))
    → (r : Result A LineKind) (left ws : Words) → Gives r left (choice_in rows ws) → Gives r left (read_in (keyword words) value ws)
unfolding choice_in read_in
choice_read rows words value says r left ws given = subst (Gives r left) (alike ws) given
  where
    alike : (ws : Words) → choice_in rows ws ≡ read_in (keyword words) value ws
    alike [] = refl
    alike (w ∷ ws) = ap (with_rest ws) (says w)

abbrev turn_rows : List (List ℕ × Turn)
turn_rows = (codes "left", turn.Left) ∷ (codes "straight", turn.Straight) ∷ (codes "right", turn.Right) ∷ []

pub turn_read : (r : Result Turn LineKind) (left ws : Words) → Gives r left (choice_in turn_rows ws) → Gives r left (read_in turns turn_of ws)
turn_read = choice_read _ _ _ (said ((codes "left", turn.Left) ∷ (codes "straight", turn.Straight) ∷ []) (codes "right", turn.Right))

-- two words, of which a test says whether it is the first
pub two_said : (one other word : List ℕ) → look_up kind.Words ((one, true) ∷ (other, false) ∷ []) word ≡ unless (bytes_eq word one) (keyword_fault (is_one_of (one ∷ other ∷ []) word))
two_said one other word = elim (cases_Bool (bytes_eq word one)) [
  | inl is ↦ rw is refl
  | inr not ↦ elim (cases_Bool (bytes_eq word other)) [
    | inl is ↦ rw (not, is) refl
    | inr neither ↦ rw (not, neither) refl
  ]
]

abbrev class_rows : List (List ℕ × Bool)
class_rows = (codes "car", false) ∷ (codes "emergency", true) ∷ []

class_said : (word : List ℕ) → look_up kind.Words class_rows word ≡ unless (is_emergency word) (keyword_fault (is_one_of (codes "car" ∷ codes "emergency" ∷ []) word))
class_said word = elim (cases_Bool (bytes_eq word (codes "car"))) [
  | inl is ↦ (let car : word ≡ codes "car" = (bytes_eq-Decides word (codes "car")).0 is in rw car refl)
  | inr not ↦ elim (cases_Bool (bytes_eq word (codes "emergency"))) [
    | inl is ↦ rw (not, is) refl
    | inr neither ↦ rw (not, neither) refl
  ]
]

pub class_read : (r : Result Bool LineKind) (left ws : Words) → Gives r left (choice_in class_rows ws) → Gives r left (read_in classes is_emergency ws)
class_read = choice_read _ _ _ class_said
