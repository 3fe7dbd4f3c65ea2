-- A run of a drive script: the headline of what its lines say.
use Rattle.std.specs.Prelude.{ℕ, List, length}
use Rattle.aim_messages.specs.declared.entries.Entry.{Entry}
use Rattle.aim_messages.specs.declared.script.Line.{Line}
use Rattle.aim_script.specs.Said.{layout_of, vehicles_of}
use Rattle.aim_drive_script.specs.Said.{until_of, drives_of, orders_of}
use Rattle.aim_drive.specs.Rounds.{run_size}
use Rattle.aim_drive.specs.Headline.{Headline, VehicleLog}

-- The journal and the logs are as the headline says, by the lines of the script and with so many workers.
abbrev pub IsRunOf : ℕ → List Line → List Entry → List VehicleLog → Type 0
IsRunOf workers lines h logs =
    Headline (layout_of lines) (vehicles_of lines) (until_of lines) (run_size (length (drives_of lines)) workers) (drives_of lines) (orders_of lines) h logs
