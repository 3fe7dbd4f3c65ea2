use Rattle.std.proofs.Common.{refl, length, ◌&&◌}
use Rattle.aim_geometry.specs.Rects.{tile_at}
use Rattle.aim_layout.specs.LaneTiles.{in_lane_tiles}
use Rattle.aim_layout.specs.Policies.{has_lane}
use Rattle.aim_policies.specs.Claimed.{is_other}
use Rattle.aim_policies.proofs.Places.{fewer_left}
use Rattle.aim_policies.proofs.UnitedRows.{counted_more, lanes_fit, lane_few, lane_there, none_counted, all_counted}
use Rattle.aim_policies.proofs.claims.claimed_rows.Goals as goal

pub overflow_cast-lane-end : goal.overflow_cast-lane-end
overflow_cast-lane-end c = lanes_fit c.args.layout.now c.lanes-lane-end.result c.lanes-lane-end.ensures.valid c.lanes-lane-end.ensures.count

pub loop-lane-init : goal.loop-lane-init
loop-lane-init c = λ row col r l. none_counted row col r

pub unite_counted-requires-clause-few : goal.unite_counted-requires-clause-few
unite_counted-requires-clause-few c = lane_few c.args.layout.now c.lanes-lane-end.result c.loop-lane.lane c.lanes-lane-end.ensures.valid c.lanes-lane-end.ensures.count c.loop-lane-test.true

pub unite_counted-requires-clause-there : goal.unite_counted-requires-clause-there
unite_counted-requires-clause-there c = lane_there c.args.layout.now c.lanes-lane-end.result c.loop-lane.lane c.lanes-lane-end.ensures.count c.loop-lane-test.true

pub loop-lane-smaller : goal.loop-lane-smaller
loop-lane-smaller c = fewer_left c.loop-lane.lane c.lanes-lane-end.result c.loop-lane-test.true

pub loop-lane-preserved : goal.loop-lane-preserved
loop-lane-preserved c = λ row col r l.
    counted_more c.loop-lane.lane _ (tile_at c.loop-lane.rows row col) _ _ (c.loop-lane.invariant row col r l) refl (c.unite_counted.ensures row col r l)

pub returns-clause-rows : goal.returns-clause-rows
returns-clause-rows c = λ row col r l.
    all_counted (λ k. is_other c.args.except k && has_lane c.args.lanes k && in_lane_tiles c.args.layout.now k row col) c.lanes-lane-end.result c.loop-lane.lane (length c.args.layout.now.lanes) (tile_at c.loop-lane.rows row col)
    c.loop-lane.auto.lane-end c.loop-lane-test.false c.lanes-lane-end.ensures.count (c.loop-lane.invariant row col r l)

pub returns-clause-valid : goal.returns-clause-valid
returns-clause-valid c = c.lanes-lane-end.ensures.valid
