use Rattle.std.proofs.Common.{◌∙◌, ap, sym}
use Rattle.aim_geometry.specs.declared.ground.Grid.{Grid}
use Rattle.aim_line_session.proofs.QuietLemmas.{quiet_header, quiet_set}
use Rattle.aim_replay.proofs.StageLemmas.{header_whole, header_past}
use Rattle.aim_replay.proofs.stages.headed.Goals as goal

pub returns-in-Some-clause-takes : goal.returns-in-Some-clause-takes
returns-in-Some-clause-takes g c before st =
    let spans = ap (λ (x : Grid). x.spans) (c.grid-spans.ensures.grid ∙ c.ground.ensures.grid) in
    header_past before c.args.line.now c.in-Ok-Whole.setting _ _ (rw c.in-Ok-Whole.field-0-is at (c.in-Ok-Whole.ensures before st)) spans c.in-Some.ensures

pub returns-in-None-clause-takes : goal.returns-in-None-clause-takes
returns-in-None-clause-takes g c before st =
    let spans = ap (λ (x : Grid). x.spans) (c.grid-spans.ensures.grid ∙ c.ground.ensures.grid) in
    header_whole g.row.L.Denot before c.args.line.now c.in-Ok-Whole.setting _ (rw c.in-Ok-Whole.field-0-is at (c.in-Ok-Whole.ensures before st)) spans c.in-None.ensures

pub returns-in-None-clause-quiet : goal.returns-in-None-clause-quiet
returns-in-None-clause-quiet g c before st =
    let heeds = rw c.in-Ok-Whole.field-0-is at (c.in-Ok-Whole.ensures before st) in
    quiet_set _ c.in-Ok-Whole.setting heeds.2 ∙ sym (quiet_header before c.args.header st)

pub returns-in-Ok-More-clause-quiet : goal.returns-in-Ok-More-clause-quiet
returns-in-Ok-More-clause-quiet g c before st =
    let heeds = rw c.in-Ok-More.field-0-is at (c.in-Ok-More.ensures before st) in
    quiet_header _ c.in-Ok-More.header heeds.2 ∙ sym (quiet_header before c.args.header st)
