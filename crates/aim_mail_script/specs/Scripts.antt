-- A whole script of events, and what reading one comes to.
use Rattle.std.specs.Prelude.{◌≡◌, ℕ, true, List, length, Option, IfSome, Result, Ok, Err}
use Rattle.aim_messages.specs.declared.script.Line.{Line}
use Rattle.aim_script_reading.specs.Verdicts.{IsScript}
use Rattle.aim_script.specs.declared.decisions.Decision.{Decision}
use Rattle.aim_script.specs.declared.decisions.Decision.TheVariants as decision
use Rattle.aim_script.specs.Order.{is_end}
use Rattle.aim_script.specs.Said.{last_of, layout_of, vehicles_of}
use Rattle.aim_mail_script.specs.declared.scripts.EventScript.{EventScript}
use Rattle.aim_mail_script.specs.declared.scripts.EventEnding.{EventEnding}
use Rattle.aim_mail_script.specs.declared.scripts.EventEnding.TheVariants as ending
use Rattle.aim_mail_script.specs.Said.{events_of}
use Rattle.aim_mail_script.specs.Verdicts.{event_rules, event_verdict}

-- no line is at fault behind those before it, and none goes past a limit
abbrev pub AreEvents : List Line → Type 0
AreEvents lines = IsScript event_rules lines

-- the script says what the lines say
pub record IsScriptOf (lines : List Line) (s : EventScript) : Type 0 where
  pub layout : s.layout ≡ layout_of lines
  pub vehicles : s.vehicles ≡ vehicles_of lines
  pub events : s.events.items ≡ events_of lines

-- The script is that of lines that make a whole one, and where the source tells its bytes, they come to just these lines.
pub record IsRead (bytes : Option (List ℕ)) (s : EventScript) : Type 0 where
  pub lines : List Line
  pub whole : AreEvents lines
  pub over : is_end (last_of lines) ≡ true
  pub is : IsScriptOf lines s
  pub verdict : IfSome bytes (λ bs. event_verdict bs ≡ record { before = lines; decision = decision.Whole (length s.events.items) })

-- where the source tells its bytes, this is decided of them
abbrev pub Decides : Option (List ℕ) → Decision → Type 0
Decides bytes d = IfSome bytes (λ bs. let v = event_verdict bs in v.decision ≡ d)

-- what reading comes to: a script exactly where it is whole, and else what the line that decides comes to
abbrev pub Reads : Option (List ℕ) → Result EventScript EventEnding → Type 0
Reads bytes (Ok s) = IsRead bytes s
Reads bytes (Err (ending.Bad number why)) = Decides bytes (decision.Bad number why)
Reads bytes (Err (ending.Limit which)) = Decides bytes (decision.Limit which)
Reads bytes (Err ending.Read) = Unit {0}
Reads bytes (Err ending.NoMemory) = Unit {0}
