use Rattle.std.proofs.Common.{inl, inr, refl}
use Rattle.aim_drive_command.proofs.commands.put_run.Goals as goal
