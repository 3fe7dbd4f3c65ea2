use Rattle.std.proofs.Common.{◌+◌, filter, length, map}
use Rattle.aim_safety.specs.Tiles.{cell_of, of_row, of_rows}
use Rattle.aim_safety.specs.Traces.{is_traced}
use Rattle.aim_safety.proofs.TraceLemmas.{goes_on, parts_more}
use Rattle.aim_safety.proofs.traces.push_tiles.Goals as goal

pub loop-row-preserved : goal.loop-row-preserved
loop-row-preserved c =
    let p = is_traced c.args.steps.now c.args.first in
    let count = length c.args.steps.now in
    goes_on (map cell_of c.loop-row.cells.items) (map cell_of c.push_row.new.cells.items) (filter p (of_rows c.args.first count c.args.n c.loop-row.row)) (filter p (of_row c.args.first count c.args.n c.loop-row.row))
    (filter p (of_rows c.args.first count c.args.n (c.loop-row.row + 1))) (map cell_of c.args.cells.now.items) c.loop-row.invariant c.in_ok-push_row.ensures (parts_more (of_row c.args.first count c.args.n) p c.loop-row.row)
