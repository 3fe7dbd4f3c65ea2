use Rattle.std.proofs.Common.{◌≡◌, take, filter_map}
use Rattle.aim_drive_script.specs.Said.{ordered_in}
use Rattle.aim_drive_script.proofs.building.orders_of.Given as goal

abbrev pub invariant-loop-line : goal.invariant-loop-line
invariant-loop-line l = l.orders.items ≡ filter_map (ordered_in l.setting.names) (take l.line-index l.lines)
