use Rattle.std.proofs.Common.{◌≡◌, ◌≤◌, take}
use Rattle.aim_drive_script.specs.Said.{moments_of}
use Rattle.aim_drive_script.specs.Seen.{seen_orders}
use Rattle.aim_drive_script.proofs.questions.orders_seen.Given as goal

abbrev pub invariant-loop-line : goal.invariant-loop-line
invariant-loop-line l = record { seen : l.seen ≡ seen_orders (moments_of (take l.line-index l.lines)); few : l.seen.count ≤ l.line-index }
