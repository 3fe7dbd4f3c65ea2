-- What the loop of the tests counts, by the bytes alone. No public clause cites it.
use Rattle.std.specs.Prelude.{◌≡◌, ℕ, ◌+◌, List, [], ◌∷◌, length, Some, None}
use Rattle.std.specs.declared.option.Option.{Option}
use Rattle.aim_io.specs.declared.lines.LineFault.{LineFault}
use Rattle.aim_io.specs.Lines.{fault_of, Outcome, Line, Stop}
use Rattle.aim_io.specs.Taken.{TookWhole}

-- so many lines before, and those up to the end or a fault
abbrev pub count_from : ℕ → List Outcome → ℕ × Option LineFault
count_from count [] = (count, None)
count_from count (Line line ∷ more) = count_from (count + 1) more
count_from count (Stop fault ∷ more) = (count, Some (fault_of fault))

-- so many whole lines are gone
pub record CountsWhole (before after : Option (List ℕ)) (count : ℕ) : Type 0 where
  pub lines : List (List ℕ)
  pub took : TookWhole before after lines
  pub is : length lines ≡ count
