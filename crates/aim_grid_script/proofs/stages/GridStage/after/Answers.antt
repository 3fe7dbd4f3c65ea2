use Rattle.std.proofs.Common.{◌∙◌, sym}
use Rattle.aim_grid_script.proofs.Staging.{judged, unread, was_read}
use Rattle.aim_grid_script.proofs.stages.GridStage.after.Goals as goal

pub take_line-requires : goal.take_line-requires
take_line-requires c = was_read c.args.bytes.now c.number-version.result c.in-Ok.line c.in-Ok.ensures

pub returns-in-Ok : goal.returns-in-Ok
returns-in-Ok c before st =
    judged before c.args.bytes.now c.number-version.result c.in-Ok.line _ (c.version.ensures before st ∙ sym c.number-version.ensures.number) c.in-Ok.ensures (c.take_line.ensures before st)

pub returns-in-Err : goal.returns-in-Err
returns-in-Err c before st =
    unread before c.args.bytes.now c.number-version.result c.in-Err.kind (c.version.ensures before st ∙ sym c.number-version.ensures.number) c.in-Err.ensures
