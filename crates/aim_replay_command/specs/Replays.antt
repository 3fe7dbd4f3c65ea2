-- What a replay takes out of its source and adds to its sink.
use Rattle.std.specs.Prelude.{◌≡◌, ℕ, ◌<◌, ◌≤◌, List, [], ◌∷◌, ◌++◌, length, Option, Some, None, IfSome}
use Rattle.std.specs.List.{AllByRecursion}
use Rattle.std.specs.Io.KnownBytes.{Appends, Consumes}
use Rattle.aim_io.specs.Known.{AppendsFront}
use Rattle.aim_io.specs.Lines.{Line as LineOf, IsOpen, joined_lines}
use Rattle.aim_messages.specs.declared.script.Line.{Line}
use Rattle.aim_rules.specs.Journals.{journal}
use Rattle.aim_script.specs.Said.{layout_of, calls_of}
use Rattle.aim_script.specs.Verdicts.{Reads, Judgement, decides, goes_on, judge, journal_of, verdict}
use Rattle.aim_script.specs.Spellings.{Spelled}
use Rattle.aim_replay_command.specs.Texts.{entry_lines, text_by, status_by}

abbrev pub unless_decided : List Line → Judgement → (List Line → Option (List Line)) → Option (List Line)
unless_decided before (decides d) next = None
unless_decided before (goes_on l) next = next (before ++ l ∷ [])

-- the script with further lines, if none of them decides
abbrev pub script_after : Reads → List Line → List (List ℕ) → Option (List Line)
script_after reads before [] = Some before
script_after reads before (line ∷ lines) = unless_decided before (judge reads before (LineOf line)) (λ more. script_after reads more lines)

-- whole lines were read that make this script: none of them decides, and none goes past a limit
pub record AreWhole (reads : Reads) (lines : List (List ℕ)) (before : List Line) : Type 0 where
  pub each : AllByRecursion IsOpen lines
  pub few : length lines ≤ 262144
  pub script : script_after reads [] lines ≡ Some before

-- where the source tells its bytes, no more than these were taken
pub record TakesAtMost (most : ℕ) (left_old left_new : Option (List ℕ)) : Type 0 where
  pub bytes : List ℕ
  pub taken : Consumes left_old left_new bytes
  pub within : length bytes ≤ most

-- The source failed: the bytes that were read are whole lines, none of which decides, and the beginning of a further
-- line, which doesn't decide either, and what was written are the lines of the entries of these lines' events and orders.
pub record StopsShortBy (w : Spelled) (left_old left_new held_old held_new : Option (List ℕ)) : Type 0 where
  pub lines : List (List ℕ)
  pub part : List ℕ
  pub taken : Consumes left_old left_new (joined_lines lines ++ part)
  pub within : length (joined_lines lines ++ part) ≤ 67108864
  pub is_open : IsOpen part
  pub undecided : 0 < length part → length lines < 262144
  pub before : List Line
  pub whole : AreWhole w.reads lines before
  pub written : Appends held_old held_new (entry_lines w 0 (journal (layout_of before) (calls_of before)))

-- The last read was needed: what was read before it are whole lines, none of which decides, and the beginning of a further
-- line, which doesn't decide either. `piece` is what that read gave, as far as the source tells it.
pub record LastNeededBy (w : Spelled) (left_old left_new : Option (List ℕ)) (last : Option ℕ) : Type 0 where
  pub lines : List (List ℕ)
  pub part : List ℕ
  pub piece : List ℕ
  pub taken : Consumes left_old left_new (joined_lines lines ++ (part ++ piece))
  pub within : length (joined_lines lines ++ part) ≤ 67108864
  pub before : List Line
  pub whole : AreWhole w.reads lines before
  pub is_open : IsOpen part
  pub undecided : 0 < length part → length lines < 262144
  pub told : IfSome last (λ n. n ≡ length piece)

-- behind what was written before stand the lines of the entries of these lines' events and orders
abbrev pub WroteEntriesOf : Spelled → List Line → List ℕ → List ℕ → Type 0
WroteEntriesOf w before old new = new ≡ old ++ entry_lines w 0 (journal (layout_of before) (calls_of before))

-- where the source tells its bytes, a front of their text was written
abbrev pub WritesFront : Option (List ℕ) → Option (List ℕ) → Option (List ℕ) → (List ℕ → List ℕ) → Type 0
WritesFront bytes old new text = IfSome bytes (λ bs. AppendsFront old new (text bs))

-- where the source tells its bytes, their text was written
abbrev pub Writes : Option (List ℕ) → Option (List ℕ) → Option (List ℕ) → (List ℕ → List ℕ) → Type 0
Writes bytes old new text = IfSome bytes (λ bs. Appends old new (text bs))

-- the whole text of these bytes was written, and the status is theirs
pub record ReplaysBy (w : Spelled) (asked : Option ℕ) (bytes : List ℕ) (old new : Option (List ℕ)) (result : ℕ) : Type 0 where
  pub text : Appends old new (text_by w asked bytes)
  pub status : result ≡ status_by w bytes

-- the lines of the entries of the events and orders that stand before the line that decides
abbrev pub entries_text : Spelled → List ℕ → List ℕ
entries_text w bytes = entry_lines w 0 (journal_of (verdict w.reads bytes))
