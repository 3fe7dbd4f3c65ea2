-- What is known of the bytes and lines that are taken of a source.
-- No public clause cites it: only contracts of private functions.
use Rattle.std.specs.Prelude.{◌≡◌, ◌⊎◌, ◌≤◌, ◌<◌, ℕ, List, [], ◌∷◌, ◌++◌, length, take, Option, Some, None, IfSome, Result, Ok, Err}
use Rattle.std.specs.Io.KnownBytes.{Consumes, IsAtEnd}
use Rattle.aim_io.specs.Lines.{HasNoEnd}
use Rattle.aim_session_command.specs.declared.lines.Given.{Given}
use Rattle.aim_session_command.specs.declared.lines.Given.TheVariants as given
use Rattle.aim_session_command.specs.declared.lines.Trouble.{Trouble}
use Rattle.aim_session_command.specs.declared.lines.Trouble.TheVariants as trouble

-- what a call that asks for the next byte answers, by what is to come before it and after it
abbrev pub GivesByte : {E : Type 0} → Result (Option ℕ) E → Option (List ℕ) → Option (List ℕ) → Type 0
GivesByte (Ok (Some b)) before after = Consumes before after (b ∷ [])
GivesByte (Ok None) before after = Consumes before after [] × IsAtEnd after
GivesByte (Err e) before after = Consumes before after []

-- the last read gave this piece, as far as the source tells it
pub record ReadsPiece (left_old left_new : Option (List ℕ)) (last : Option ℕ) : Type 0 where
  pub piece : List ℕ
  pub taken : Consumes left_old left_new piece
  pub told : IfSome last (λ n. n ≡ length piece)

-- the byte was the first of those that were held
abbrev pub WasHeld : {E : Type 0} → Result (Option ℕ) E → List ℕ → List ℕ → Type 0
WasHeld (Ok (Some b)) old new = old ≡ b ∷ new
WasHeld (Ok None) old new = ⊥
WasHeld (Err e) old new = ⊥

-- The last read was needed: `part` had been read of what was to come, and no line ends in it. `piece` is what that read gave.
pub record NeedsRead (before left_new : Option (List ℕ)) (last : Option ℕ) : Type 0 where
  pub part : List ℕ
  pub piece : List ℕ
  pub no_end : HasNoEnd part
  pub taken : Consumes before left_new (part ++ piece)
  pub told : IfSome last (λ n. n ≡ length piece)

-- a line is gone, and its byte 10, or the input ended behind it; its first bytes are kept
pub record TakesLine (before after : Option (List ℕ)) (kept : List ℕ) : Type 0 where
  pub line : List ℕ
  pub is : kept ≡ take 401 line
  pub no_end : HasNoEnd line
  pub taken : Consumes before after (line ++ 10 ∷ []) ⊎ (Consumes before after line × IsAtEnd after × (0 < length line))

-- a part of a line is gone
pub record TakesPart (before after : Option (List ℕ)) (part : List ℕ) : Type 0 where
  pub no_end : HasNoEnd part
  pub taken : Consumes before after part

-- what a call that asks for the next line answers
abbrev pub GivesLine : Result Given Trouble → Option (List ℕ) → Option (List ℕ) → List ℕ → Type 0
GivesLine (Ok given.Line) before after kept = (t : TakesLine before after kept) × Consumes before after (t.line ++ 10 ∷ [])
GivesLine (Ok given.Last) before after kept = TakesLine before after kept × IsAtEnd after
GivesLine (Ok given.Nothing) before after kept = Consumes before after [] × IsAtEnd after
GivesLine (Err trouble.Read) before after kept = (part : List ℕ) × TakesPart before after part
GivesLine (Err trouble.Huge) before after kept = (part : List ℕ) × TakesPart before after part × (4294967295 ≤ length part)
