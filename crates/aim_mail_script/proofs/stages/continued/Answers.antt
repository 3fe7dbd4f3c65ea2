use Rattle.aim_mail_script.proofs.Staging.{end_taken}
use Rattle.aim_mail_script.proofs.stages.continued.Goals as goal

pub returns-in-End : goal.returns-in-End
returns-in-End c before st = end_taken before c.args.line.now c.args.draft c.in-End.is st
