use Rattle.std.proofs.Common.{◌≡◌, ◌+◌, ◌≤◌, length, drop}
use Rattle.std.specs.List.{filter}
use Rattle.aim_drive.specs.Making.{log_of}
use Rattle.aim_drive_command.specs.Summaries.{has_entered}
use Rattle.aim_drive_command.proofs.summaries.entered.Given as goal

abbrev pub invariant-loop-logged : goal.invariant-loop-logged
invariant-loop-logged l = record {
  count : l.count + length (filter (λ x. has_entered (log_of x)) (drop l.logged-index l.logs)) ≡ length (filter (λ x. has_entered (log_of x)) l.logs);
  few : l.count ≤ l.logged-index;
}
