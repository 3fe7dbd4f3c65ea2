-- Where calls of two runs race: they have one moment.
use Rattle.std.specs.Prelude.{◌≡◌, ℕ, ◌<◌, List, length, Some, slice_get}
use Rattle.aim_messages.specs.declared.entries.Entry.{Entry}
use Rattle.aim_messages.specs.declared.script.Line.{Line}
use Rattle.aim_drive_script.specs.Said.{Drive, drives_of}
use Rattle.aim_drive.specs.Places.{At}
use Rattle.aim_drive.specs.Rounds.{run_size}
use Rattle.aim_drive.specs.Runs.{InRun}

-- two drivers' calls of one moment are of one run
abbrev pub AreOfOneRun : ℕ → List Drive → List Entry → Type 0
AreOfOneRun size drives h = (j k : ℕ) (c d : Drive) → j < k → slice_get drives j ≡ Some c → slice_get drives k ≡ Some d
    → (p q : ℕ) (e f : Entry) → At h p e → At h q f → e.caller ≡ c.vehicle → f.caller ≡ d.vehicle → e.moment ≡ f.moment → InRun size j k

-- with so many workers no calls of two runs race
abbrev pub NoneRace : ℕ → List Line → List Entry → Type 0
NoneRace workers lines h = AreOfOneRun (run_size (length (drives_of lines)) workers) (drives_of lines) h
