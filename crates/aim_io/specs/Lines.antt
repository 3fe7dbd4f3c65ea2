-- What the lines of an input are, and what is answered to a caller who takes them one after another. Nothing here knows
-- in which pieces the bytes come.
use Rattle.std.specs.Prelude.{◌≡◌, ◌≢◌, ◌≤◌, ◌<◌, ℕ, ◌+◌, ◌==◌, List, [], ◌∷◌, ◌++◌, length, take, drop, min, Bool, ◌&&◌, nat_lt, nat_le, if◌then◌else◌, Some, None}
use Rattle.std.specs.declared.option.Option.{Option}
use Rattle.std.specs.List.{AllByRecursion}
use Rattle.aim_io.specs.declared.lines.LineFault.{LineFault}
use Rattle.aim_io.specs.declared.lines.LineFault.TheVariants.{Read, Long, Bytes, Lines}

-- this byte before the first of these lines
abbrev pub onto_first : ℕ → List (List ℕ) → List (List ℕ)
onto_first b [] = (b ∷ []) ∷ []
onto_first b (line ∷ lines) = (b ∷ line) ∷ lines

-- a line ends at a byte 10 or at the end of the input; the byte 10 is not part of it
abbrev pub lines_of : List ℕ → List (List ℕ)
lines_of [] = []
lines_of (b ∷ bytes) = if b == 10 then [] ∷ lines_of bytes else onto_first b (lines_of bytes)

-- what the bytes of an input say in the place of a line: the line of this number, counted from 1, is too long, or there
-- are more bytes or more lines than are taken
pub data InputFault : Type 0 where
  LongLine : ℕ → InputFault
  TooManyBytes : InputFault
  TooManyLines : InputFault

-- the fault that a reader answers there; it answers one more, that its source has failed, of which no bytes speak
abbrev pub fault_of : InputFault → LineFault
fault_of (LongLine number) = Long number
fault_of TooManyBytes = Bytes
fault_of TooManyLines = Lines

-- what is answered to a caller who asks for the next line: the line, or a fault, which is the last answer
pub data Outcome : Type 0 where
  Line : List ℕ → Outcome
  Stop : InputFault → Outcome

-- how many of the first bytes of the input are gone when a line is taken that begins behind `place` bytes: those
-- before it, its own and its byte 10, if the input of `total` bytes has one there
abbrev pub place_behind : ℕ → ℕ → List ℕ → ℕ
place_behind total place line = min (place + length line + 1) total

-- the fault that stands in the place of a line: at most 262,144 lines are given, a line has at most 400 bytes, and its
-- end stands among the first 67,108,864 bytes of the input, if its 401st byte doesn't
abbrev pub fault_at : ℕ → ℕ → ℕ → List ℕ → Option InputFault
fault_at total given place line =
    if nat_le 262144 given then Some TooManyLines
    else if nat_le 401 (length line) && nat_le (place + 401) 67108864 then Some (LongLine (given + 1))
    else if nat_lt 67108864 (place_behind total place line) then Some TooManyBytes
    else None

-- the line where there is no fault, and what is answered after it
abbrev pub outcome : Option InputFault → List ℕ → List Outcome → List Outcome
outcome None line more = Line line ∷ more
outcome (Some fault) line more = Stop fault ∷ []

-- the answers to a caller who was given so many lines and stands at this place of an input of `total` bytes
unfoldable pub outcomes_from : ℕ → ℕ → ℕ → List (List ℕ) → List Outcome
outcomes_from total given place [] = []
outcomes_from total given place (line ∷ lines) =
    outcome (fault_at total given place line) line (outcomes_from total (given + 1) (place_behind total place line) lines)

-- the answers from here on: so many lines were given, so many bytes are gone, and these bytes are still to come
abbrev pub outcomes : ℕ → ℕ → List ℕ → List Outcome
outcomes given place bytes = outcomes_from (place + length bytes) given place (lines_of bytes)

-- all answers that an input gives
abbrev pub outcomes_of : List ℕ → List Outcome
outcomes_of bytes = outcomes 0 0 bytes

-- no line ends in it
abbrev pub HasNoEnd : List ℕ → Type 0
HasNoEnd bytes = AllByRecursion (λ b. b ≢ 10) bytes

-- it holds neither the end of a line nor its 401st byte
pub record IsOpen (bytes : List ℕ) : Type 0 where
  pub no_end : HasNoEnd bytes
  pub short : length bytes ≤ 400

-- a line as it stood in the input: with its byte 10, or without one where the input ended
abbrev pub with_end : Bool → List ℕ → List ℕ
with_end ended line = if ended then line else line ++ 10 ∷ []

-- what the first of the bytes to come show where a fault stands: so many lines were given, so many bytes are gone
pub record ShowsLines (given : ℕ) (bytes : List ℕ) : Type 0 where
  pub given_all : 262144 ≤ given
  pub further : 0 < length bytes

pub record ShowsLong (given place : ℕ) (bytes : List ℕ) : Type 0 where
  pub few : given < 262144
  pub long : 401 ≤ length bytes
  pub no_end : HasNoEnd (take 401 bytes)
  pub within : place + 401 ≤ 67108864

pub record ShowsBytes (given place : ℕ) (bytes : List ℕ) : Type 0 where
  pub few : given < 262144
  pub front : List ℕ
  pub rest : List ℕ
  pub split : bytes ≡ front ++ rest
  pub no_end : HasNoEnd front
  pub last : place + length front ≡ 67108864
  pub short : length front ≤ 400
  pub further : 0 < length rest

-- the first byte 10 stands at this place
pub record EndsAt (bytes : List ℕ) (at : ℕ) : Type 0 where
  pub fits : at < length bytes
  pub no_end : HasNoEnd (take at bytes)
  pub split : bytes ≡ take at bytes ++ 10 ∷ drop (at + 1) bytes

-- what the first of the bytes to come show where this fault stands; they never show that the source fails
abbrev pub ShowsFault : ℕ → ℕ → List ℕ → LineFault → Type 0
ShowsFault given place bytes Read = ⊥
ShowsFault given place bytes (Long number) = (number ≡ given + 1) × ShowsLong given place bytes
ShowsFault given place bytes Bytes = ShowsBytes given place bytes
ShowsFault given place bytes Lines = ShowsLines given bytes

-- what the first of the bytes to come show where further ones have to tell the next answer
pub record ShowsNothing (given place : ℕ) (bytes : List ℕ) : Type 0 where
  pub is_open : IsOpen bytes
  pub few : 0 < length bytes → given < 262144
  pub within : place + length bytes ≤ 67108864

-- these lines, each with its byte 10
abbrev pub joined_lines : List (List ℕ) → List ℕ
joined_lines [] = []
joined_lines (line ∷ lines) = line ++ 10 ∷ joined_lines lines

-- this byte before the first of these lines, if there is one
abbrev pub onto_whole : ℕ → List (List ℕ) → List (List ℕ)
onto_whole b [] = []
onto_whole b (line ∷ lines) = (b ∷ line) ∷ lines

-- the lines of which the byte 10 is among these bytes
abbrev pub whole_lines : List ℕ → List (List ℕ)
whole_lines [] = []
whole_lines (b ∷ bytes) = if b == 10 then [] ∷ whole_lines bytes else onto_whole b (whole_lines bytes)
