-- Tables of words.
use Rattle.std.proofs.Common.{◌≡◌, ℕ, ◌<◌, ◌≤◌, nat_le, List, [], ◌∷◌, map, Bool, true, false, Result, refl, inl, inr, arith}
use Rattle.std.specs.Prelude.{bytes_eq, codes}
use Rattle.std.proofs.lemmas.Bool.{cases_Bool, leb-true, le-leb}
use Rattle.aim_messages.specs.declared.script.LineKind.{LineKind}
use Rattle.aim_messages.specs.declared.script.LineKind.TheVariants as kind
use Rattle.aim_messages.specs.Texts.{Words}
use Rattle.aim_text_words.specs.Faults.{keyword_fault, is_one_of}
use Rattle.aim_text_words.specs.Tables.{look_up}
use Rattle.aim_text_lines.specs.Forms.{map_ok, kinds, windows}
use Rattle.aim_text_words.specs.Reading.{unless}
use Rattle.aim_text_lines.specs.Reading.{is_early, kind_of}
use Rattle.aim_text_words.specs.Steps.{Gives, read_in, choice_in}
use Rattle.aim_text_words.proofs.TableLaws.{said, choice_read, two_said}

-- a table of what a function says of the rows
pub mapped : {F G : Type 0} (f : F → G) (fault : LineKind) (rows : List (List ℕ × F)) (word : List ℕ)
    → look_up fault (map (λ (row : List ℕ × F). (row.0, f row.1)) rows) word ≡ map_ok f (look_up fault rows word)
mapped f fault [] word = refl
mapped f fault (row ∷ rows) word = elim (cases_Bool (bytes_eq word row.0)) [
  | inl is ↦ rw is refl
  | inr not ↦ rw not (mapped f fault rows word)
]

pub window_read : (r : Result Bool LineKind) (left ws : Words) → Gives r left (choice_in ((codes "early", true) ∷ (codes "start", false) ∷ []) ws) → Gives r left (read_in windows is_early ws)
window_read = choice_read _ _ _ (two_said (codes "early") (codes "start"))

abbrev kind_rows : List (List ℕ × ℕ)
kind_rows = (codes "fcfs", 0) ∷ (codes "emerg", 1) ∷ (codes "light", 2) ∷ []

kind_said : (word : List ℕ) → look_up kind.Words kind_rows word ≡ unless (kind_of word) (keyword_fault (is_one_of (codes "fcfs" ∷ codes "emerg" ∷ codes "light" ∷ []) word))
kind_said word = elim (cases_Bool (bytes_eq word (codes "fcfs"))) [
  | inl is ↦ rw is refl
  | inr not_0 ↦ elim (cases_Bool (bytes_eq word (codes "emerg"))) [
    | inl is ↦ rw (not_0, is) refl
    | inr not_1 ↦ elim (cases_Bool (bytes_eq word (codes "light"))) [
      | inl is ↦ rw (not_0, not_1, is) refl
      | inr not_2 ↦ rw (not_0, not_1, not_2) refl
    ]
  ]
]

pub kind_read : (version : ℕ) → version < 3 → (r : Result ℕ LineKind) (left ws : Words) → Gives r left (choice_in kind_rows ws) → Gives r left (read_in (kinds version) kind_of ws)
kind_read version below = rw (not_least version below) (choice_read _ _ _ kind_said)
  where
    not_least : (version : ℕ) → version < 3 → nat_le 3 version ≡ false
    not_least version below = elim (cases_Bool (nat_le 3 version)) [
      | inl is ↦ absurd (omega (arith, leb-true 3 version is))
      | inr not ↦ not
    ]

abbrev kind_rows_3 : List (List ℕ × ℕ)
kind_rows_3 = (codes "fcfs", 0) ∷ (codes "emerg", 1) ∷ (codes "light", 2) ∷ (codes "light-emerg", 3) ∷ []

pub kind_read_3 : (version : ℕ) → 3 ≤ version → (r : Result ℕ LineKind) (left ws : Words) → Gives r left (choice_in kind_rows_3 ws) → Gives r left (read_in (kinds version) kind_of ws)
kind_read_3 version least = rw (le-leb 3 version least) (choice_read _ _ _ (said kind_rows (codes "light-emerg", 3)))
