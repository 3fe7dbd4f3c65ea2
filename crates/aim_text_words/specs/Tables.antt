-- Tables of words: each row is a word and what it says.
use Rattle.std.specs.Prelude.{ℕ, List, [], ◌∷◌, Result, Ok, Err, if◌then◌else◌, bytes_eq}
use Rattle.std.specs.Borrow.{Bor}
use Rattle.aim_messages.specs.declared.script.LineKind.{LineKind}

-- what the row of that word says, or that kind of fault where no row has the word
abbrev pub look_up : {F : Type 0} → LineKind → List (List ℕ × F) → List ℕ → Result F LineKind
look_up fault [] word = Err fault
look_up fault (row ∷ rows) word = if bytes_eq word row.0 then Ok row.1 else look_up fault rows word

-- the rows of a table of the code
abbrev pub rows_of : {F : Type 0} → List (Bor (List ℕ) × F) → List (List ℕ × F)
rows_of [] = []
rows_of (row ∷ rows) = (row.0.now, row.1) ∷ rows_of rows
