use Rattle.std.proofs.Common.{◌≡◌, map, drop}
use Rattle.aim_drive.specs.Making.{log_of}
use Rattle.aim_drive_command.specs.Ordered.{log_among}
use Rattle.aim_drive_command.proofs.reports.log_among.Given as goal

abbrev pub invariant-loop-logged : goal.invariant-loop-logged
invariant-loop-logged l = log_among l.vehicle (map log_of (drop l.logged-index l.logs)) ≡ log_among l.vehicle (map log_of l.logs)
