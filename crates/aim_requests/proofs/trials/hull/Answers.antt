use Rattle.std.proofs.lemmas.Bool.{and_parts}
use Rattle.aim_geometry.specs.Rects.{in_rows, in_columns}
use Rattle.aim_footprint.specs.Windows.{rect_at}
use Rattle.aim_footprint.proofs.UnderLemmas.{under_found}
use Rattle.aim_requests.proofs.trials.hull.Goals as goal

pub returns-clause-rows : goal.returns-clause-rows
returns-clause-rows c = λ row col l u.
    let w = c.args.window.now in
    let i = c.requires.window in
    let rects = c.args.rects.now in
    let f = under_found rects w.low w.next row col i.within u in
    let p = and_parts (in_rows (rect_at rects f.0) row) (in_columns (rect_at rects f.0) col) f.3 in
    let h = (c.requires.steady c.if-not-is_steady.false).hull w.low w.next f.0 row f.1 f.2 i.within p.0 in
    (rw c.min.ensures h.0, rw c.max.ensures h.1)
