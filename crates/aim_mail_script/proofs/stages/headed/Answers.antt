use Rattle.std.proofs.Common.{◌∙◌, ap}
use Rattle.aim_geometry.specs.declared.ground.Grid.{Grid}
use Rattle.aim_mail_script.proofs.Staging.{header_falls, header_more, header_past, header_whole}
use Rattle.aim_mail_script.proofs.stages.headed.Goals as goal

pub returns-in-Ok-More : goal.returns-in-Ok-More
returns-in-Ok-More c before st =
    header_more before c.args.line.now c.args.header c.in-Ok-More.header st (rw c.in-Ok-More.field-0-is at (c.in-Ok-More.ensures before st.says))

pub returns-in-Some : goal.returns-in-Some
returns-in-Some c before st =
    let spans = ap (λ (x : Grid). x.spans) (c.grid-spans.ensures.grid ∙ c.ground.ensures.grid) in
    header_past before c.args.line.now c.args.header c.in-Ok-Whole.setting _ _ st (rw c.in-Ok-Whole.field-0-is at (c.in-Ok-Whole.ensures before st.says)) spans c.in-Some.ensures

pub returns-in-None : goal.returns-in-None
returns-in-None c before st =
    let spans = ap (λ (x : Grid). x.spans) (c.grid-spans.ensures.grid ∙ c.ground.ensures.grid) in
    header_whole before c.args.line.now c.args.header c.in-Ok-Whole.setting _ st (rw c.in-Ok-Whole.field-0-is at (c.in-Ok-Whole.ensures before st.says)) spans c.in-None.ensures

pub returns-in-Err-Bad : goal.returns-in-Err-Bad
returns-in-Err-Bad c before st =
    header_falls before c.args.line.now c.args.header c.in-Err-Bad.kind st (rw c.in-Err-Bad.field-0-is at (c.in-Err-Bad.ensures before st.says))
