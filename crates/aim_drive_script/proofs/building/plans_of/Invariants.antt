use Rattle.std.proofs.Common.{◌≡◌, take, map, filter_map}
use Rattle.aim_drive_script.specs.Said.{drive_in}
use Rattle.aim_drive_script.specs.Scripts.{drive_told}
use Rattle.aim_drive_script.proofs.building.plans_of.Given as goal

abbrev pub invariant-loop-line : goal.invariant-loop-line
invariant-loop-line l = map drive_told l.plans.items ≡ filter_map (drive_in l.lines) (take l.line-index l.lines)
