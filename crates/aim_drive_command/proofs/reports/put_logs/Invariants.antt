use Rattle.std.proofs.Common.{◌≡◌, ◌++◌, ◌-◌, map}
use Rattle.aim_report.specs.Reports.{all_logs}
use Rattle.aim_drive.specs.Making.{log_of}
use Rattle.aim_drive_command.specs.Ordered.{in_order, logs_from}
use Rattle.aim_drive_command.proofs.reports.put_logs.Given as goal

abbrev pub invariant-loop-vehicle : goal.invariant-loop-vehicle
invariant-loop-vehicle l =
    l.out.items ++ all_logs (logs_from l.vehicle (l.vehicles - l.vehicle) (map log_of l.logs)) ≡ l.initial.out.items ++ all_logs (in_order l.vehicles (map log_of l.logs))
