use Rattle.aim_mail_command.proofs.Reports.{told_journal}
use Rattle.aim_mail_command.proofs.laws.a_text_tells_one_run.Goals as goal

pub returns : goal.returns
returns c = told_journal
