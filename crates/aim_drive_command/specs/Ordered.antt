-- The logs of a drive in the order of their vehicles.
use Rattle.std.specs.Prelude.{ℕ, ◌==◌, List, [], ◌∷◌, map, if◌then◌else◌}
use Rattle.std.specs.List.{range_with_len}
use Rattle.aim_driver.specs.declared.logs.LogItem.{LogItem}
use Rattle.aim_drive.specs.Headline.{VehicleLog}

-- the log of the vehicle, which is empty where it has none
abbrev pub log_among : ℕ → List VehicleLog → List LogItem
log_among v [] = []
log_among v (x ∷ xs) = if x.0 == v then x.1 else log_among v xs

-- of each vehicle from one on the log
abbrev pub logs_from : ℕ → ℕ → List VehicleLog → List VehicleLog
logs_from first count logs = map (λ v. (v, log_among v logs)) (range_with_len first count)

-- of each of so many vehicles, in rising order, the log
abbrev pub in_order : ℕ → List VehicleLog → List VehicleLog
in_order vehicles logs = logs_from 0 vehicles logs
