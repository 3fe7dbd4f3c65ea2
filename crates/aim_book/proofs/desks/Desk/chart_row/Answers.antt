use Rattle.std.proofs.Common.{◌<◌, ◌≤◌, arith, ◌∙◌}
use Rattle.aim_geometry.specs.Cells.{cell_at}
use Rattle.aim_rules.specs.History.{now_of}
use Rattle.aim_book.proofs.ChartLemmas.{charted_claimed, charted_held}
use Rattle.aim_book.proofs.desks.Desk.chart_row.Goals as goal

pub returns-clause-held : goal.returns-clause-held
returns-clause-held g c = λ n h m col.
    let on : now_of h 0 ≤ c.args.step = omega (arith, c.if-step-now.false, c.now.ensures.now, m.desk.reserved.current) in
    c.mask.ensures col ∙ charted_held c.args.layout.now n h c.args.self.now m (cell_at c.args.step c.args.row col) on

pub returns-clause-claimed : goal.returns-clause-claimed
returns-clause-claimed g c = λ n h m col k.
    let within = c.requires.row in
    let row : c.args.row < 64 = omega (arith, within, m.valid.sound.grid.rows) in
    let on : now_of h 0 ≤ c.args.step = omega (arith, c.if-step-now.false, c.now.ensures.now, m.desk.reserved.current) in
    c.claims-claims.ensures c.args.row col row k ∙ charted_claimed c.args.layout.now n h c.args.self.now m (cell_at c.args.step c.args.row col) on
