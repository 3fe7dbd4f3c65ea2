-- What is printed of generated traffic.
use Rattle.std.specs.Prelude.{◌≡◌, ℕ, List, Option}
use Rattle.std.specs.Io.KnownBytes.{Appends}
use Rattle.aim_io.specs.Known.{AppendsFront}
use Rattle.aim_messages.specs.declared.entries.Entry.{Entry}
use Rattle.aim_drive_script.specs.Said.{until_of}
use Rattle.aim_drive.specs.Headline.{VehicleLog}
use Rattle.aim_drive_command.specs.Traffic.{traffic_lines}
use Rattle.aim_drive_command.specs.Runs.{IsRunOf}
use Rattle.aim_drive_command.specs.Summaries.{summary}

-- The text counts a run, with one worker, of the script of generated traffic.
pub record IsSummary (number count : ℕ) (text : List ℕ) : Type 0 where
  pub journal : List Entry
  pub logs : List VehicleLog
  pub run : IsRunOf 1 (traffic_lines number count) journal logs
  pub is : text ≡ summary (until_of (traffic_lines number count)) journal logs

-- such a text was written
pub record Counts (number count : ℕ) (old new : Option (List ℕ)) : Type 0 where
  pub text : List ℕ
  pub is : IsSummary number count text
  pub written : Appends old new text

-- a front of one was written
pub record CountsFront (number count : ℕ) (old new : Option (List ℕ)) : Type 0 where
  pub text : List ℕ
  pub is : IsSummary number count text
  pub written : AppendsFront old new text
