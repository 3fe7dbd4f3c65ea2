-- What the command does that holds a session.
use Rattle.std.specs.Prelude.{◌≡◌, ◌⊎◌, ℕ, false, List, [], ◌++◌, length, Option, IfSome}
use Rattle.std.specs.List.{AllByRecursion}
use Rattle.std.specs.Io.KnownBytes.{Appends, Consumes}
use Rattle.aim_io.specs.Known.{AppendsFront}
use Rattle.aim_io.specs.Lines.{HasNoEnd, joined_lines}
use Rattle.aim_messages.specs.declared.script.Line.{Line}
use Rattle.aim_script.specs.declared.decisions.Decision.{Decision}
use Rattle.aim_script.specs.Decided.{status_of}
use Rattle.aim_script.specs.Order.{is_end}
use Rattle.aim_script.specs.Said.{last_of}
use Rattle.aim_script.specs.Spellings.{Spelled}
use Rattle.aim_line_session.specs.Sessions.{journal_so_far}
use Rattle.aim_script_reading.specs.Commands.{Ends, IsOfScript, Streams}
use Rattle.aim_session_command.specs.Answered.{AreAnswered, IsBegun, IsSession}

-- the whole text of a session of these bytes was written, and the status is its
pub record Writes (w : Spelled) (bytes : List ℕ) (old new : Option (List ℕ)) (result : ℕ) : Type 0 where
  pub text : List ℕ
  pub decision : Decision
  pub is : IsSession w bytes text decision
  pub written : Appends old new text
  pub status : result ≡ status_of decision

-- the text of a session of these bytes, or the answers to the first of its lines
abbrev pub IsPart : Spelled → List ℕ → List ℕ → Type 0
IsPart w bytes text =
    ((d : Decision) × IsSession w bytes text d) ⊎ ((lines : List (List ℕ)) × (more : List (List ℕ)) × (taken : List Line) × IsBegun w bytes lines more taken text)

-- a front of it was written
pub record WritesFront (w : Spelled) (bytes : List ℕ) (old new : Option (List ℕ)) : Type 0 where
  pub text : List ℕ
  pub is : IsPart w bytes text
  pub written : AppendsFront old new text

-- The source has failed: what was read are whole lines, which are answered and none of which ends the session, and a part of a further one.
pub record StopsBehind (w : Spelled) (left_old left_new held_old held_new : Option (List ℕ)) : Type 0 where
  pub lines : List (List ℕ)
  pub part : List ℕ
  pub taken : List Line
  pub text : List ℕ
  pub gone : Consumes left_old left_new (joined_lines lines ++ part)
  pub each : AllByRecursion HasNoEnd lines
  pub no_end : HasNoEnd part
  pub answered : AreAnswered w 1 [] lines taken text
  pub going : is_end (last_of taken) ≡ false
  pub written : Appends held_old held_new text

-- Memory has run out before the first entry: the first of the lines are answered, and nothing else was written.
pub record RunsOut (w : Spelled) (bytes : List ℕ) (old new : Option (List ℕ)) : Type 0 where
  pub lines : List (List ℕ)
  pub more : List (List ℕ)
  pub taken : List Line
  pub text : List ℕ
  pub begun : IsBegun w bytes lines more taken text
  pub none : journal_so_far taken ≡ []
  pub written : Appends old new text

-- The last read was needed: what was read before it are whole lines, which were answered so and none of which ends the session, and a part of a further one.
-- `piece` is what that read gave, as far as the source tells it.
pub record LastNeeded (w : Spelled) (left_old left_new : Option (List ℕ)) (last : Option ℕ) : Type 0 where
  pub lines : List (List ℕ)
  pub part : List ℕ
  pub piece : List ℕ
  pub taken : List Line
  pub text : List ℕ
  pub gone : Consumes left_old left_new (joined_lines lines ++ (part ++ piece))
  pub each : AllByRecursion HasNoEnd lines
  pub no_end : HasNoEnd part
  pub answered : AreAnswered w 1 [] lines taken text
  pub going : is_end (last_of taken) ≡ false
  pub told : IfSome last (λ n. n ≡ length piece)

-- With status 0, 3 or 6 the whole text of a session of the source's bytes is written, and the status is its; with 5 a front of it. With status 4 each whole line
-- that was read is answered, and what is written is handed on: `settled` says that the sink keeps nothing back. With status 7 no line has made an entry. Whatever
-- the status, nothing is read behind the line that ends the session: `unread` says that nothing was read, and `last` is what the last read gave.
pub record HoldsSession (w : Spelled) (unread settled : Type 0) (last : Option ℕ) (old new : Streams) (result : ℕ) : Type 0 where
  pub whole : IsOfScript result → IfSome old.left (λ bytes. Writes w bytes old.held new.held result)
  pub short : result ≡ 4 → StopsBehind w old.left new.left old.held new.held
  pub waited : result ≡ 4 → settled
  pub front : result ≡ 5 → IfSome old.left (λ bytes. WritesFront w bytes old.held new.held)
  pub memory : result ≡ 7 → IfSome old.left (λ bytes. RunsOut w bytes old.held new.held)
  pub needed : unread ⊎ LastNeeded w old.left new.left last
  pub ends : Ends old new result
