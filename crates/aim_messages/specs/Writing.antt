-- A text that is made word by word.
use Rattle.std.specs.Prelude.{ℕ, List, [], ◌∷◌, ◌++◌}
use Rattle.aim_messages.specs.Texts.{Words}

-- a text, and then each word with a space behind it
abbrev pub added : List ℕ → Words → List ℕ
added text [] = text
added text (word ∷ words) = added ((text ++ word) ++ 32 ∷ []) words
