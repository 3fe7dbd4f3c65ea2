-- What a script keeps of its lines. No public clause cites this file.
use Rattle.std.specs.Prelude.{◌≡◌, ℕ, ◌<◌, ◌≤◌, List, length, slice_index}
use Rattle.aim_shards_command.specs.declared.lines.ShardLine.{ShardLine}
use Rattle.aim_shards_command.specs.Said.{asked_of, sets_of, terms_of}
use Rattle.aim_shards_command.specs.Kinds.{IsScript}

pub record Keeps (lines : List ShardLine) (sets : ℕ) (counts : List ℕ) : Type 0 where
  pub wide : length counts ≡ 64
  pub is_script : IsScript lines
  pub callers : let t = terms_of lines in t.callers ≤ 64
  pub sets_are : sets ≡ length (sets_of lines)
  pub counts_are : (c : ℕ) → c < 64 → slice_index counts c ≡ length (asked_of c lines)
