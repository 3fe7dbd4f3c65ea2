-- Whole lines.
use Rattle.std.specs.Prelude.{◌≡◌, ℕ, List, [], ◌∷◌, ◌++◌}

-- the bytes are those of a line, its byte 10 included
abbrev pub IsWholeLine : List ℕ → Type 0
IsWholeLine bytes = (words : List ℕ) × (bytes ≡ words ++ 10 ∷ [])
