use Rattle.std.proofs.Common.{sym, subst}
use Rattle.aim_grid_script.specs.Stages.{Stands}
use Rattle.aim_grid_script.proofs.stages.GridStageLineTaker.take.Goals as goal

pub returns-in-Ok : goal.returns-in-Ok
returns-in-Ok c first before st = c.in-Ok.ensures before (subst (λ s. Stands before s) (sym c.replace-stage.ensures.value) st)

pub returns-in-Err-Bad : goal.returns-in-Err-Bad
returns-in-Err-Bad c first before st = (rw c.in-Err-Bad.field-0-is at (c.in-Err-Bad.ensures before (subst (λ s. Stands before s) (sym c.replace-stage.ensures.value) st)), tt)

pub returns-in-Err-Limit : goal.returns-in-Err-Limit
returns-in-Err-Limit c first before st = (rw c.in-Err-Limit.field-0-is at (c.in-Err-Limit.ensures before (subst (λ s. Stands before s) (sym c.replace-stage.ensures.value) st)), tt)
