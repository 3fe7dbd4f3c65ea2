use Rattle.std.proofs.Common.{◌∙◌, sym, ap}
use Rattle.aim_geometry.specs.declared.ground.Grid.{Grid}
use Rattle.aim_drive_script.specs.Kinds.{vehicles_limit}
use Rattle.aim_drive_script.proofs.Heading.{limit_is, no_limit, opens, same_kind}
use Rattle.aim_drive_script.proofs.drafts.headed.Goals as goal

pub returns-in-Ok-More : goal.returns-in-Ok-More
returns-in-Ok-More c before st =
    let h = rw c.in-Ok-More.field-0-is at (c.in-Ok-More.ensures before st) in
    (same_kind before c.args.header c.args.line.now st ∙ h.0, no_limit before c.args.header c.args.line.now st h.0 h.1, h.2)

pub returns-in-Some : goal.returns-in-Some
returns-in-Some c before st =
    let h = rw c.in-Ok-Whole.field-0-is at (c.in-Ok-Whole.ensures before st) in
    let spans = ap (λ (x : Grid). x.spans) (c.grid-spans.ensures.grid ∙ c.ground.ensures.grid) in
    let limit = limit_is before c.args.line.now c.in-Ok-Whole.setting h.1 h.2 in
    (same_kind before c.args.header c.args.line.now st ∙ h.0, limit ∙ ap (λ n. vehicles_limit n c.in-Ok-Whole.setting.vehicles) (sym spans) ∙ sym c.in-Some.ensures)

pub returns-in-None : goal.returns-in-None
returns-in-None c before st =
    let h = rw c.in-Ok-Whole.field-0-is at (c.in-Ok-Whole.ensures before st) in
    let spans = ap (λ (x : Grid). x.spans) (c.grid-spans.ensures.grid ∙ c.ground.ensures.grid) in
    let limit = limit_is before c.args.line.now c.in-Ok-Whole.setting h.1 h.2 in
    let within = ap (λ n. vehicles_limit n c.in-Ok-Whole.setting.vehicles) (sym spans) ∙ sym c.in-None.ensures in
    (same_kind before c.args.header c.args.line.now st ∙ h.0, limit ∙ within, opens before c.args.line.now c.in-Ok-Whole.setting h.1 h.2 within)

pub returns-in-Err-Bad : goal.returns-in-Err-Bad
returns-in-Err-Bad c before st =
    let h = rw c.in-Err-Bad.field-0-is at (c.in-Err-Bad.ensures before st) in
    same_kind before c.args.header c.args.line.now st ∙ h
