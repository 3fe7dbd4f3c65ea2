use Rattle.aim_report.proofs.Telling.{tells_journal, tells_logs}
use Rattle.aim_report.proofs.laws.a_report_tells_the_journal_and_the_logs.Goals as goal

pub returns-clause-journal : goal.returns-clause-journal
returns-clause-journal c = tells_journal

pub returns-clause-logs : goal.returns-clause-logs
returns-clause-logs c = tells_logs
