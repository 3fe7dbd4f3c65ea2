use Rattle.aim_drive_command.proofs.Journals.{same_journal, same_logs_too}
use Rattle.aim_drive_command.proofs.laws.one_run_has_one_journal.Goals as goal

pub returns-clause-journal : goal.returns-clause-journal
returns-clause-journal c = λ i vehicles until size drives orders h k logs others wide x y. same_journal i vehicles until size drives orders wide h k logs others x y

pub returns-clause-logs : goal.returns-clause-logs
returns-clause-logs c = λ i vehicles until size drives orders h k logs others wide x y. same_logs_too i vehicles until size drives orders wide h k logs others x y
