-- What it means that a verdict is of the first line that decides.
use Rattle.std.specs.Prelude.{◌≡◌, ◌⊎◌, ℕ, List, length, take, slice_get, Some}
use Rattle.aim_io.specs.Lines.{Outcome}
use Rattle.aim_messages.specs.declared.script.Line.{Line}
use Rattle.aim_script.specs.Verdicts.{Reads, Verdict, judge, goes_on, decides, at_end}

-- Each line of the verdict goes on behind the lines before it, and what stands behind them all decides: the end of the
-- input, or else the next line.
pub record IsOfTheFirst (reads : Reads) (input : List Outcome) (v : Verdict) : Type 0 where
  pub goes_on_at : (k : ℕ) (l : Line) → slice_get v.before k ≡ Some l →
      (o : Outcome) × (slice_get input k ≡ Some o) × (judge reads (take k v.before) o ≡ goes_on l)
  pub decided : ((length v.before ≡ length input) × (v.decision ≡ at_end v.before))
      ⊎ ((o : Outcome) × (slice_get input (length v.before) ≡ Some o) × (judge reads v.before o ≡ decides v.decision))
