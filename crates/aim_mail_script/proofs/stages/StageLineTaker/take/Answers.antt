use Rattle.std.proofs.Common.{sym, subst}
use Rattle.aim_mail_script.specs.Stages.{Stands}
use Rattle.aim_mail_script.proofs.stages.StageLineTaker.take.Goals as goal

pub returns-in-Ok : goal.returns-in-Ok
returns-in-Ok c first before st = c.in-Ok.ensures before (subst (λ s. Stands before s) (sym c.replace-stage.ensures.value) st)
