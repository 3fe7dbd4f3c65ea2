-- How a command ends that reads its script whole before it writes: what is written, and the status. The same for all kinds of scripts.
use Rattle.std.specs.Prelude.{◌≡◌, ◌⊎◌, ℕ, ◌≤◌, List, [], Option, IfSome}
use Rattle.std.specs.Io.KnownBytes.{Appends, IsAtEnd}
use Rattle.aim_io.specs.Causes.{Rose}
use Rattle.aim_io.specs.Known.{AppendsFront}
use Rattle.aim_script_reading.specs.Rules.{Rules}
use Rattle.aim_script_reading.specs.Short.{LastNeededBy, StopsShort, TakesAtMost}

-- what a source has left and a sink holds at one time, where they tell it, and how often each has failed
pub record Streams : Type 0 where
  pub left : Option (List ℕ)
  pub source_faults : ℕ
  pub held : Option (List ℕ)
  pub sink_faults : ℕ

-- a status that a script has: of a whole one, of one with a line at fault, of one past a limit
abbrev pub IsOfScript : ℕ → Type 0
IsOfScript status = (status ≡ 0) ⊎ ((status ≡ 3) ⊎ (status ≡ 6))

-- The text was written, and the status goes with it; or the sink failed, the status is 5, and a front of the text was written.
abbrev pub Puts : List ℕ → ℕ → Option (List ℕ) → Option (List ℕ) → ℕ → ℕ → ℕ → Type 0
Puts text status held held' sink sink' result = ((result ≡ status) × Appends held held' text) ⊎ ((result ≡ 5) × AppendsFront held held' text × Rose sink sink')

-- Such a text was put, of a whole script; or memory has run out, and nothing was written.
abbrev pub PutsOne : (List ℕ → Type 0) → Option (List ℕ) → Option (List ℕ) → ℕ → ℕ → ℕ → Type 0
PutsOne IsText held held' sink sink' result = ((text : List ℕ) × IsText text × Puts text 0 held held' sink sink' result) ⊎ ((result ≡ 7) × (held' ≡ held))

-- a whole text of the script of these bytes was written, and the status is theirs
pub record Shows (IsText : List ℕ → List ℕ → Type 0) (status_of : List ℕ → ℕ) (bytes : List ℕ) (old new : Option (List ℕ)) (result : ℕ) : Type 0 where
  pub text : List ℕ
  pub is : IsText bytes text
  pub written : Appends old new text
  pub status : result ≡ status_of bytes

-- a front of such a text was written
pub record ShowsFront (IsText : List ℕ → List ℕ → Type 0) (bytes : List ℕ) (old new : Option (List ℕ)) : Type 0 where
  pub text : List ℕ
  pub is : IsText bytes text
  pub written : AppendsFront old new text

-- a whole script, and a source and a sink that didn't fail, give status 0, or memory has run out
abbrev pub Completes : (List ℕ → ℕ) → List ℕ → Streams → Streams → ℕ → Type 0
Completes status_of bytes old new result =
    status_of bytes ≡ 0 → (Rose old.source_faults new.source_faults → ⊥) → (Rose old.sink_faults new.sink_faults → ⊥) → (result ≡ 0) ⊎ (result ≡ 7)

-- each status has its cause, and the counts of faults don't fall
pub record Ends (old new : Streams) (result : ℕ) : Type 0 where
  pub read : result ≡ 4 → Rose old.source_faults new.source_faults
  pub write : result ≡ 5 → Rose old.sink_faults new.sink_faults
  pub source : old.source_faults ≤ new.source_faults
  pub sink : old.sink_faults ≤ new.sink_faults
  pub statuses : (result ≡ 0) ⊎ ((result ≡ 3) ⊎ ((result ≡ 4) ⊎ ((result ≡ 5) ⊎ ((result ≡ 6) ⊎ (result ≡ 7)))))

-- What a command does with a script of such rules, by the texts that the bytes of one may have, and their status. With status 0, 3 or 6 a whole text is
-- written, with 5 a front of one, with 4 or 7 nothing. With status 4 nothing that was read decides. Whatever the status, no more than one byte past the greatest
-- input is taken, and nothing is read behind bytes that decide: `unread` says that nothing was read, and `last` is what the last read gave.
pub record Reports {L K M : Type 0} (r : Rules L K M) (IsText : List ℕ → List ℕ → Type 0) (status_of : List ℕ → ℕ) (unread : Type 0) (last : Option ℕ) (old new : Streams) (result : ℕ) : Type 0 where
  pub whole : IsOfScript result → IfSome old.left (λ bytes. Shows IsText status_of bytes old.held new.held result)
  pub ended : result ≡ 0 → IsAtEnd new.left
  pub front : result ≡ 5 → IfSome old.left (λ bytes. ShowsFront IsText bytes old.held new.held)
  pub nothing : (result ≡ 4) ⊎ (result ≡ 7) → Appends old.held new.held []
  pub short : result ≡ 4 → StopsShort r old.left new.left
  pub most : TakesAtMost 67108865 old.left new.left
  pub needed : unread ⊎ LastNeededBy r old.left new.left last
  pub complete : IfSome old.left (λ bytes. Completes status_of bytes old new result)
  pub ends : Ends old new result
