-- What is printed of a run over several crossings.
use Rattle.std.specs.Prelude.{ℕ, ◌+◌, List, [], ◌∷◌, ◌++◌, length, codes, decimal}
use Rattle.std.specs.List.{sum_by}
use Rattle.aim_messages.specs.declared.entries.Entry.{Entry}
use Rattle.aim_messages.specs.Texts.{Words, spaced}
use Rattle.aim_layout.specs.Intersection.{Intersection}
use Rattle.aim_script.specs.Decided.{printed}
use Rattle.aim_report.specs.Reports.{all_logs, all_tiles, end_words, journal_lines}
use Rattle.aim_grid.specs.Headline.{VehicleLog}
use Rattle.aim_drive_command.specs.Ordered.{in_order}

-- the words of the line that begins a crossing
abbrev pub crossing_words : ℕ → Words
crossing_words c = codes "crossing" ∷ decimal c ∷ []

-- one crossing: its line, its entries, and of each vehicle, in rising order, the log and the tiles there
abbrev pub crossing_text : ℕ → ℕ → Intersection → List Entry → List VehicleLog → List ℕ
crossing_text vehicles c i h logs =
    printed (spaced (crossing_words c)) ++ journal_lines 0 h ++ all_logs (in_order vehicles logs) ++ all_tiles i h (in_order vehicles logs)

-- crossings, one behind the other, from that number on
abbrev pub crossings_text : ℕ → ℕ → List Intersection → List (List Entry) → List (List VehicleLog) → List ℕ
crossings_text vehicles c (i ∷ more) (h ∷ hs) (logs ∷ others) = crossing_text vehicles c i h logs ++ crossings_text vehicles (c + 1) more hs others
crossings_text vehicles c layouts hs logs = []

-- the entries of all crossings
abbrev pub all_entries : List (List Entry) → ℕ
all_entries hs = sum_by (λ (h : List Entry). length h) hs

-- the crossings, and the number of entries of them all
abbrev pub grid_report : List Intersection → ℕ → List (List Entry) → List (List VehicleLog) → List ℕ
grid_report layouts vehicles hs logs = crossings_text vehicles 0 layouts hs logs ++ printed (spaced (end_words (all_entries hs)))
