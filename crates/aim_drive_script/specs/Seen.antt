-- What is counted of a list's elements. No public clause cites this file.
use Rattle.std.specs.Prelude.{ℕ, ◌+◌, List, length, Option, Some, None}
use Rattle.aim_driver.specs.declared.plans.PlannedChange.{PlannedChange}
use Rattle.aim_driver.specs.Plans.{last_change}
use Rattle.aim_drive_script.specs.declared.questions.ChangesSeen.{ChangesSeen}
use Rattle.aim_drive_script.specs.declared.questions.OrdersSeen.{OrdersSeen}
use Rattle.aim_drive_script.specs.Said.{last_number}

abbrev pub seen_changes : List PlannedChange → ChangesSeen
seen_changes changes = record { count = length changes; next = last_change changes }

abbrev pub changes_with : ChangesSeen → Option PlannedChange → ChangesSeen
changes_with seen None = seen
changes_with seen (Some change) = record { count = seen.count + 1; next = change.step + 1 }

abbrev pub seen_orders : List ℕ → OrdersSeen
seen_orders moments = record { count = length moments; last = last_number moments }

abbrev pub orders_with : OrdersSeen → Option ℕ → OrdersSeen
orders_with seen None = seen
orders_with seen (Some moment) = record { count = seen.count + 1; last = moment }
