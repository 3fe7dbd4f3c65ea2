use Rattle.std.proofs.Common.{◌≡◌, ◌++◌, drop, map}
use Rattle.aim_safety.specs.Tiles.{cell_of}
use Rattle.aim_report.specs.Stays.{stays, stays_behind}
use Rattle.aim_report.specs.Reports.{stay_lines}
use Rattle.aim_report.proofs.stays.put_stays.Given as goal

abbrev pub invariant-loop-cell : goal.invariant-loop-cell
invariant-loop-cell l = l.out.items ++ stay_lines l.vehicle (stays_behind l.stay (map cell_of (drop l.cell-index l.cells)))
    ≡ l.initial.out.items ++ stay_lines l.vehicle (stays (map cell_of l.cells))
