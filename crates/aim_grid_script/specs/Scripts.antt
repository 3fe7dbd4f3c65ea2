-- A whole script of several crossings, and what reading one comes to.
use Rattle.std.specs.Prelude.{◌≡◌, ℕ, List, Option, IfSome, Result, Ok, Err}
use Rattle.aim_script_reading.specs.Verdicts.{IsScript}
use Rattle.aim_grid_script.specs.declared.lines.GridLine.{GridLine}
use Rattle.aim_grid_script.specs.declared.decisions.GridDecision.{GridDecision}
use Rattle.aim_grid_script.specs.declared.decisions.GridDecision.TheVariants as decision
use Rattle.aim_grid_script.specs.declared.routes.Routes.{Routes}
use Rattle.aim_grid_script.specs.Fits.{AreRoutesOf}
use Rattle.aim_grid_script.specs.Verdicts.{at_end, grid_rules, grid_verdict}
use Rattle.aim_grid_script.specs.declared.endings.GridEnding.{GridEnding}
use Rattle.aim_grid_script.specs.declared.endings.GridEnding.TheVariants as ending

-- no line is at fault behind those before it, and none goes past a limit
abbrev pub IsGrid : List GridLine → Type 0
IsGrid lines = IsScript grid_rules lines

-- The routes are those of lines that make a whole script, and where the source tells its bytes, they come to just these lines.
pub record IsRead (bytes : Option (List ℕ)) (r : Routes) : Type 0 where
  pub lines : List GridLine
  pub grid : IsGrid lines
  pub whole : at_end lines ≡ decision.Whole
  pub is : AreRoutesOf lines r
  pub verdict : IfSome bytes (λ bs. grid_verdict bs ≡ record { before = lines; decision = decision.Whole })

-- where the source tells its bytes, this is decided of them
abbrev pub Decides : Option (List ℕ) → GridDecision → Type 0
Decides bytes d = IfSome bytes (λ bs. let v = grid_verdict bs in v.decision ≡ d)

-- what reading comes to: routes exactly where the script is whole, and else what the line that decides comes to
abbrev pub Reads : Option (List ℕ) → Result Routes GridEnding → Type 0
Reads bytes (Ok r) = IsRead bytes r
Reads bytes (Err (ending.Bad number why)) = Decides bytes (decision.Bad number why)
Reads bytes (Err (ending.Limit which)) = Decides bytes (decision.Limit which)
Reads bytes (Err ending.Read) = Unit {0}
Reads bytes (Err ending.NoMemory) = Unit {0}
