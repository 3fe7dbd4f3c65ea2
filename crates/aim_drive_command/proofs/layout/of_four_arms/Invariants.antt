use Rattle.std.proofs.Common.{◌≡◌}
use Rattle.aim_drive_command.specs.Laid.{laid}
use Rattle.aim_drive_command.proofs.layout.of_four_arms.Given as goal

abbrev pub invariant-loop-place : goal.invariant-loop-place
invariant-loop-place l = l.builder ≡ laid l.place
