-- The words of a line and its spaces, and the lines of a whole script.
use Rattle.std.proofs.Common.{◌≡◌, ◌==◌, ◌+◌, ◌<◌, ℕ, List, [], ◌∷◌, count_by, length, true, arith}
use Rattle.std.proofs.lemmas.List.Splits.{length-slice_split}
use Rattle.aim_text_words.specs.Faults.{words_of}
use Rattle.aim_shards_command.specs.declared.lines.ShardLine.{ShardLine}
use Rattle.aim_shards_command.specs.Kinds.{last_of}
use Rattle.aim_shards_command.specs.Verdicts.{is_end}

-- one word more than spaces
pub words_counted : (bytes : List ℕ) → length (words_of bytes) ≡ count_by (λ b. b == 32) bytes + 1
words_counted bytes = length-slice_split (λ b. b == 32) bytes

-- a whole script has a line
pub whole_some : (lines : List ShardLine) → is_end (last_of lines) ≡ true → 0 < length lines
whole_some [] e = absurd cc
whole_some (l ∷ lines) e = omega arith
