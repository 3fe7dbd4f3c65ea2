use Rattle.std.proofs.Common.{◌≤◌, arith, ap, ◌∙◌}
use Rattle.aim_geometry.specs.declared.ground.Grid.{Grid}
use Rattle.aim_layout.specs.Intersection.{Intersection}
use Rattle.aim_line_session.specs.Sessions.{journal_so_far}
use Rattle.aim_replay.specs.Charted.{row_text}
use Rattle.aim_replay.proofs.ChartLemmas.{chart_is, rows_more, rows_front, rows_done}
use Rattle.aim_replay.proofs.charts.put_chart.Goals as goal

pub returns-in-Err-clause-err : goal.returns-in-Err-clause-err
returns-in-Err-clause-err g c before st =
    let i = c.args.session.now.server.layout in
    let n = ap (λ (x : Grid). x.n) (c.grid-n.ensures.grid ∙ c.ground.ensures.grid ∙ ap (λ (i : Intersection). i.grid) c.layout.ensures) in
    rw (chart_is i (journal_so_far before) c.args.step) at (rows_front (row_text i (journal_so_far before) c.args.step) i.grid.n c.loop-k.k _ _ _ (rw n at c.loop-k-test.true) (c.loop-k.invariant.written before st) (rw n at (c.in-Err.ensures.err before st)))

pub loop-k-preserved : goal.loop-k-preserved
loop-k-preserved g c =
    let i = c.args.session.now.server.layout in
    let n = ap (λ (x : Grid). x.n) (c.grid-n.ensures.grid ∙ c.ground.ensures.grid ∙ ap (λ (i : Intersection). i.grid) c.layout.ensures) in
    record {
      written = λ before st. rows_more (row_text i (journal_so_far before) c.args.step) i.grid.n c.loop-k.k _ _ _ (rw n at c.loop-k-test.true) (c.loop-k.invariant.written before st) (rw n at (c.in-Ok.ensures.ok before st));
      later = omega (arith, c.loop-k.invariant.later, c.in-Ok.ensures.cause.later);
    }

pub returns-clause-ok : goal.returns-clause-ok
returns-clause-ok g c before st =
    let i = c.args.session.now.server.layout in
    let n = ap (λ (x : Grid). x.n) (c.grid-n.ensures.grid ∙ c.ground.ensures.grid ∙ ap (λ (i : Intersection). i.grid) c.layout.ensures) in
    let all : i.grid.n ≤ c.loop-k.k = omega (arith, n) in
    rows_done i (journal_so_far before) c.args.step c.loop-k.k _ _ all (c.loop-k.invariant.written before st)
