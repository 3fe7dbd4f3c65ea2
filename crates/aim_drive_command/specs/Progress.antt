-- How far the drivers of a script have come at its end.
use Rattle.std.specs.Prelude.{ℕ, List, [], ◌∷◌}
use Rattle.aim_messages.specs.declared.script.Line.{Line}
use Rattle.aim_driver.specs.Progress.{Progress, progress}
use Rattle.aim_drive_script.specs.Said.{Drive, drives_of, until_of}
use Rattle.aim_drive.specs.Headline.{VehicleLog}

-- that of each drive, by the log at its place
abbrev pub progress_of : ℕ → List Drive → List VehicleLog → List Progress
progress_of until [] logs = []
progress_of until (d ∷ ds) [] = []
progress_of until (d ∷ ds) (x ∷ xs) = progress d.plan x.1 until ∷ progress_of until ds xs

abbrev pub progress_at_end : List Line → List VehicleLog → List Progress
progress_at_end lines logs = progress_of (until_of lines) (drives_of lines) logs
