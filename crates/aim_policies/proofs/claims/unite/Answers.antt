use Rattle.std.proofs.Common.{arith}
use Rattle.aim_policies.proofs.Places.{fewer_left}
use Rattle.aim_policies.proofs.UnitedRows.{row_united, none_united, all_united, row_offset}
use Rattle.aim_policies.proofs.claims.unite.Goals as goal

pub loop-row-init : goal.loop-row-init
loop-row-init c = λ r col l. none_united c.args.rows.now c.args.more.now r col

pub offset_bounds-more-row : goal.offset_bounds-more-row
offset_bounds-more-row c = row_offset c.loop-row.row c.loop-row-test.true

pub bounds-more-row : goal.bounds-more-row
bounds-more-row c = c.loop-row-test.true

pub offset_bounds-rows-row : goal.offset_bounds-rows-row
offset_bounds-rows-row c = row_offset c.loop-row.row c.loop-row-test.true

pub bounds-rows-row : goal.bounds-rows-row
bounds-rows-row c = c.loop-row-test.true

pub bounds-rows-row-in-loop-row : goal.bounds-rows-row-in-loop-row
bounds-rows-row-in-loop-row c = c.loop-row-test.true

pub loop-row-smaller : goal.loop-row-smaller
loop-row-smaller c = fewer_left c.loop-row.row 64 c.loop-row-test.true

pub loop-row-preserved : goal.loop-row-preserved
loop-row-preserved c = λ r col l.
    row_united c.loop-row.rows c.args.rows.now c.args.more.now c.loop-row.row r col (omega arith) (λ r m. c.loop-row.invariant r col (omega arith)) (c.loop-row.invariant r col l)

pub returns : goal.returns
returns c = λ r col l. all_united c.loop-row.rows c.args.rows.now c.args.more.now c.loop-row.row r col c.loop-row-test.false l (c.loop-row.invariant r col l)
