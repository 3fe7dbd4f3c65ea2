-- What a call that may stop half way does to the bytes that a sink holds.
use Rattle.std.specs.Prelude.{◌≡◌, ℕ, List, ◌++◌, Some, None, ⊤}
use Rattle.std.specs.declared.option.Option.{Option}
use Rattle.std.specs.Io.KnownBytes.{Appends}

-- the known bytes grow by a front of these
pub record AppendsFront (old new : Option (List ℕ)) (bytes : List ℕ) : Type 0 where
  pub front : List ℕ
  pub rest : List ℕ
  pub whole : bytes ≡ front ++ rest
  pub added : Appends old new front

-- this holds of the bytes that are known before and after, where they are known; known bytes stay known
abbrev pub WhereKnown : Option (List ℕ) → Option (List ℕ) → (List ℕ → List ℕ → Type 0) → Type 0
WhereKnown None after P = ⊤
WhereKnown (Some bytes) None P = ⊥
WhereKnown (Some bytes) (Some rest) P = P bytes rest
