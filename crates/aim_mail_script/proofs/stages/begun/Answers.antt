use Rattle.std.proofs.Common.{refl}
use Rattle.aim_mail_script.proofs.Staging.{begin_taken}
use Rattle.aim_mail_script.proofs.stages.begun.Goals as goal

pub returns-in-Begin : goal.returns-in-Begin
returns-in-Begin c before st = begin_taken before c.args.line.now c.args.setting _ c.in-Begin.is refl refl refl c.new-events.ensures.items st
