use Rattle.std.proofs.Common.{◌≡◌, ◌++◌, take}
use Rattle.aim_report.specs.Reports.{log_lines}
use Rattle.aim_report.proofs.items.put_log.Given as goal

abbrev pub invariant-loop-item : goal.invariant-loop-item
invariant-loop-item l = l.out.items ≡ l.initial.out.items ++ log_lines l.vehicle (take l.item-index l.log)
