-- Which journals and logs a report can be of, and what it tells of a vehicle.
use Rattle.std.specs.Prelude.{◌≢◌, ℕ, ◌≤◌, ◌==◌, List, [], ◌∷◌, length, All, AllPairs, if◌then◌else◌}
use Rattle.aim_messages.specs.declared.entries.Entry.{Entry}
use Rattle.aim_messages.specs.Actors.{IsCallerOf}
use Rattle.aim_text_words.specs.Ranges.{Is32, IsMessage}
use Rattle.aim_text_entries.specs.Ranges.{IsReply, IsEntry}
use Rattle.aim_driver.specs.declared.logs.LogItem.{LogItem}
use Rattle.aim_driver.specs.declared.logs.LogItem.TheVariants as item
use Rattle.aim_report.specs.Reports.{Logged}

-- the entry has the values of its types, and its caller may be its act's
pub record IsTold (e : Entry) : Type 0 where
  pub values : IsEntry e
  pub caller : IsCallerOf e.caller e.act

-- what the types say of an item of a log
abbrev pub IsItem : LogItem → Type 0
IsItem (item.Sent step m) = Is32 step × IsMessage m
IsItem (item.Got step seq r) = Is32 step × Is32 seq × IsReply r
IsItem (item.Entered step id) = Is32 step × Is32 id

-- and of a vehicle and its log
pub record IsLog (x : Logged) : Type 0 where
  pub vehicle : Is32 x.0
  pub items : All IsItem x.1

-- a journal and logs, at most one for each vehicle
pub record AreTold (h : List Entry) (logs : List Logged) : Type 0 where
  pub few : length h ≤ 4294967295
  pub entries : All IsTold h
  pub own : All IsLog logs
  pub one_each : AllPairs (λ x y. x.0 ≢ y.0) logs

-- the log of a vehicle, which is empty where there is none
abbrev pub log_in : List Logged → ℕ → List LogItem
log_in [] v = []
log_in (x ∷ xs) v = if x.0 == v then x.1 else log_in xs v
