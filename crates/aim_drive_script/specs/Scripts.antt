-- A whole drive script, and what reading one comes to.
use Rattle.std.specs.Prelude.{◌≡◌, ℕ, List, length, map, Option, IfSome, Result, Ok, Err}
use Rattle.aim_messages.specs.declared.script.Line.{Line}
use Rattle.aim_script.specs.declared.decisions.Decision.{Decision}
use Rattle.aim_script.specs.declared.decisions.Decision.TheVariants as decision
use Rattle.aim_script_reading.specs.Verdicts.{IsScript}
use Rattle.aim_script_reading.specs.Short.{TakesAtMost as TakesAtMostBy}
use Rattle.aim_script.specs.Said.{layout_of, vehicles_of, calls_of}
use Rattle.aim_drive_script.specs.declared.scripts.DriveScript.{DriveScript}
use Rattle.aim_drive_script.specs.declared.scripts.Ending.{Ending}
use Rattle.aim_drive_script.specs.declared.scripts.Ending.TheVariants as ending
use Rattle.aim_drive_script.specs.declared.scripts.Planned.{Planned}
use Rattle.aim_drive_script.specs.Said.{Drive, until_of, drives_of, orders_of}
use Rattle.aim_drive_script.specs.Verdicts.{drive_rules, drive_verdict}

-- no line is at fault behind those before it, and none goes past a limit
abbrev pub IsDrive : List Line → Type 0
IsDrive lines = IsScript drive_rules lines

-- the drive that is kept
abbrev pub drive_told : Planned → Drive
drive_told p = record { vehicle = p.vehicle; plan = p.plan; up = p.up.items; down = p.down.items }

-- the script says what the lines say
pub record IsScriptOf (lines : List Line) (s : DriveScript) : Type 0 where
  pub layout : s.layout ≡ layout_of lines
  pub vehicles : s.vehicles ≡ vehicles_of lines
  pub until : s.until ≡ until_of lines
  pub plans : map drive_told s.plans.items ≡ drives_of lines
  pub orders : s.orders.items ≡ orders_of lines

-- The script is that of lines that make a drive, and where the source tells its bytes, they come to just these lines.
pub record IsRead (bytes : Option (List ℕ)) (s : DriveScript) : Type 0 where
  pub lines : List Line
  pub whole : IsDrive lines
  pub is : IsScriptOf lines s
  pub verdict : IfSome bytes (λ bs. drive_verdict bs ≡ record { before = lines; decision = decision.Whole (length (calls_of lines)) })

-- where the source tells its bytes, this is decided of them
abbrev pub Decides : Option (List ℕ) → Decision → Type 0
Decides bytes d = IfSome bytes (λ bs. let v = drive_verdict bs in v.decision ≡ d)

-- what reading comes to: a script exactly where it is whole, and else what the line that decides comes to
abbrev pub Reads : Option (List ℕ) → Result DriveScript Ending → Type 0
Reads bytes (Ok s) = IsRead bytes s
Reads bytes (Err (ending.Bad number why)) = Decides bytes (decision.Bad number why)
Reads bytes (Err (ending.Limit which)) = Decides bytes (decision.Limit which)
Reads bytes (Err ending.Read) = Unit {0}
Reads bytes (Err ending.NoMemory) = Unit {0}

-- where the source tells its bytes, no more than these were taken
abbrev pub TakesAtMost : ℕ → Option (List ℕ) → Option (List ℕ) → Type 0
TakesAtMost most left_old left_new = TakesAtMostBy most left_old left_new
