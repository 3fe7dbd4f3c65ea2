use Rattle.aim_drive_command.proofs.Texts.{told_journal, told_logs}
use Rattle.aim_drive_command.proofs.laws.a_text_tells_one_run.Goals as goal

pub returns-clause-journal : goal.returns-clause-journal
returns-clause-journal c = told_journal

pub returns-clause-logs : goal.returns-clause-logs
returns-clause-logs c = told_logs
