use Rattle.aim_drive_command.proofs.Texts.{run_journal, run_logs}
use Rattle.aim_drive_command.proofs.laws.one_worker_has_one_run.Goals as goal

pub returns-clause-journal : goal.returns-clause-journal
returns-clause-journal c = run_journal

pub returns-clause-logs : goal.returns-clause-logs
returns-clause-logs c = run_logs
