-- What holds of the terms and the sets of a script.
use Rattle.std.specs.Prelude.{◌≤◌, List, All}
use Rattle.aim_shards.specs.declared.rectangles.Rectangle.{Rectangle}
use Rattle.aim_shards.specs.Rectangles.{FitsGrid}
use Rattle.aim_shards_command.specs.declared.script.ClaimTerms.{ClaimTerms}

-- the numbers are within their bounds
pub record FitTerms (t : ClaimTerms) : Type 0 where
  pub some_rows : 1 ≤ t.n
  pub few_rows : t.n ≤ 64
  pub some_steps : 1 ≤ t.horizon
  pub few_steps : t.horizon ≤ 8192
  pub some_callers : 1 ≤ t.callers
  pub few_callers : t.callers ≤ 64

-- the sets lie on the grid, within its steps
pub record AreFitting (t : ClaimTerms) (sets : List Rectangle) : Type 0 where
  pub all : All (FitsGrid t.n t.horizon) sets
