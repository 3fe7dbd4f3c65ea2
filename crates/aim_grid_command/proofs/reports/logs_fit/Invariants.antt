use Rattle.std.proofs.Common.{ℕ, ◌<◌, get_or}
use Rattle.std.specs.Prelude.{All}
use Rattle.aim_drive.specs.declared.running.Logged.{Logged}
use Rattle.aim_report.specs.Told.{IsItem}
use Rattle.aim_grid_command.proofs.reports.logs_fit.Given as goal

abbrev pub invariant-loop-logged : goal.invariant-loop-logged
invariant-loop-logged l = (k : ℕ) (d : Logged) → k < l.logged-index → All IsItem (get_or l.logs k d).driver.log
