-- The whole lines that were taken of an input.
use Rattle.std.specs.Prelude.{◌≡◌, ℕ, List, ◌++◌, length, IfSome}
use Rattle.std.specs.declared.option.Option.{Option}
use Rattle.std.specs.List.{AllByRecursion}
use Rattle.std.specs.Io.KnownBytes.{Consumes}
use Rattle.aim_io.specs.Lines.{HasNoEnd, IsOpen, joined_lines, whole_lines}

-- these lines are gone, each with its byte 10, and nothing else
pub record TookLines (before after : Option (List ℕ)) (lines : List (List ℕ)) : Type 0 where
  pub taken : Consumes before after (joined_lines lines)
  pub no_end : AllByRecursion HasNoEnd lines

-- some bytes are gone, and these are their whole lines
pub record TookWhole (before after : Option (List ℕ)) (lines : List (List ℕ)) : Type 0 where
  pub bytes : List ℕ
  pub taken : Consumes before after bytes
  pub is : whole_lines bytes ≡ lines

-- The last read since the start was needed: what was taken before it are these lines, each with its byte 10, and `part`, the
-- beginning of a further line, of which it holds neither the end nor the 401st byte. `piece` is what that read gave.
pub record LastNeeded (start now : Option (List ℕ)) (last : Option ℕ) (lines : List (List ℕ)) : Type 0 where
  pub part : List ℕ
  pub piece : List ℕ
  pub taken : Consumes start now (joined_lines lines ++ (part ++ piece))
  pub no_end : AllByRecursion HasNoEnd lines
  pub is_open : IsOpen part
  pub told : IfSome last (λ n. n ≡ length piece)
