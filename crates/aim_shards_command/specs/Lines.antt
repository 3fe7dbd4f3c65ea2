-- How the lines of scripts of claims are spelled.
use Rattle.std.specs.Prelude.{ℕ, ◌==◌, List, [], ◌∷◌, length, map, slice_index, Option, None, Result, Ok, Err, codes, if◌then◌else◌}
use Rattle.std.specs.Option.{option_or}
use Rattle.aim_messages.specs.declared.script.LineKind.{LineKind}
use Rattle.aim_messages.specs.declared.script.LineKind.TheVariants as kind
use Rattle.aim_messages.specs.Texts.{Words}
use Rattle.aim_text_words.specs.Faults.{first, number_fault, rest, value_of, words_of}
use Rattle.aim_text_words.specs.Reading.{unless}
use Rattle.aim_text_words.specs.Tables.{look_up}
use Rattle.aim_shards_command.specs.declared.lines.ShardForm.{ShardForm}
use Rattle.aim_shards_command.specs.declared.lines.ShardForm.TheVariants as form
use Rattle.aim_shards_command.specs.declared.lines.ShardLine.{ShardLine}
use Rattle.aim_shards_command.specs.declared.lines.ShardLine.TheVariants as line

-- by the first word
abbrev pub forms : List (List ℕ × ShardForm)
forms =
    (codes "shards", form.Shards)
    ∷ (codes "set", form.Set)
    ∷ (codes "claim", form.Claim)
    ∷ (codes "free", form.Free)
    ∷ (codes "end", form.End)
    ∷ []

abbrev pub form_of : List ℕ → Result ShardForm LineKind
form_of word = look_up kind.Unknown forms word

-- how many numbers a line of the form has behind its first word
abbrev pub numbers_of : ShardForm → ℕ
numbers_of form.Shards = 3
numbers_of form.Set = 6
numbers_of form.Claim = 2
numbers_of form.Free = 2
numbers_of form.End = 0

-- the line of the form with these numbers
abbrev pub line_of : ShardForm → List ℕ → ShardLine
line_of form.Shards ns = line.Shards (slice_index ns 0) (slice_index ns 1) (slice_index ns 2)
line_of form.Set ns = line.Set (slice_index ns 0 ∷ slice_index ns 1 ∷ slice_index ns 2 ∷ slice_index ns 3 ∷ slice_index ns 4 ∷ slice_index ns 5 ∷ [])
line_of form.Claim ns = line.Claim (slice_index ns 0) (slice_index ns 1)
line_of form.Free ns = line.Free (slice_index ns 0) (slice_index ns 1)
line_of form.End ns = line.End

-- the first fault from the left of words that are to be numbers of 32 bits
abbrev pub numbers_fault : Words → Option LineKind
numbers_fault [] = None
numbers_fault (w ∷ ws) = option_or (number_fault 0 4294967295 w) (numbers_fault ws)

-- the line of the form with these words behind the first one: their count comes first
abbrev pub line_with : Words → Result ShardForm LineKind → Result ShardLine LineKind
line_with words (Ok f) = if length words == numbers_of f then unless (line_of f (map value_of words)) (numbers_fault words) else Err kind.Words
line_with words (Err why) = Err why

-- what the bytes spell
abbrev pub shard_line_at : List ℕ → Result ShardLine LineKind
shard_line_at bytes = line_with (rest (words_of bytes)) (form_of (first (words_of bytes)))
