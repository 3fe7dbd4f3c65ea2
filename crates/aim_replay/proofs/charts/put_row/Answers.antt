use Rattle.std.proofs.Common.{ap, ◌∙◌}
use Rattle.aim_geometry.specs.declared.ground.Grid.{Grid}
use Rattle.aim_layout.specs.Intersection.{Intersection}
use Rattle.aim_line_session.specs.Sessions.{journal_so_far}
use Rattle.aim_replay.proofs.ChartLemmas.{marks_are}
use Rattle.aim_replay.proofs.charts.put_row.Goals as goal

pub returns-clause-ok : goal.returns-clause-ok
returns-clause-ok g c before st =
    let p = c.args.session.now in
    let n = ap (λ (x : Grid). x.n) (c.grid-n.ensures.grid ∙ c.ground.ensures.grid ∙ ap (λ (i : Intersection). i.grid) c.layout.ensures) in
    let text = rw n at c.put_marks-len.ensures.text ∙ marks_are p.server.layout (journal_so_far before) c.args.row c.args.step _ _ (rw n at c.grid-n.ensures.valid.rows) (c.chart_row-held.ensures before st) in
    rw text at c.put_line.ensures.ok

pub returns-clause-err : goal.returns-clause-err
returns-clause-err g c before st =
    let p = c.args.session.now in
    let n = ap (λ (x : Grid). x.n) (c.grid-n.ensures.grid ∙ c.ground.ensures.grid ∙ ap (λ (i : Intersection). i.grid) c.layout.ensures) in
    let text = rw n at c.put_marks-len.ensures.text ∙ marks_are p.server.layout (journal_so_far before) c.args.row c.args.step _ _ (rw n at c.grid-n.ensures.valid.rows) (c.chart_row-held.ensures before st) in
    rw text at c.put_line.ensures.err
