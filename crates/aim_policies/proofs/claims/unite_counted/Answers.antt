use Rattle.std.proofs.Common.{◌&&◌}
use Rattle.aim_geometry.specs.Rects.{tile_at}
use Rattle.aim_layout.specs.LaneTiles.{in_lane_tiles}
use Rattle.aim_layout.specs.Policies.{has_lane}
use Rattle.aim_policies.specs.Claimed.{is_other}
use Rattle.aim_policies.proofs.UnitedRows.{is_united, is_left}
use Rattle.aim_policies.proofs.claims.unite_counted.Goals as goal

pub is_counted-requires : goal.is_counted-requires
is_counted-requires c = c.requires.few

pub lane_rows-requires : goal.lane_rows-requires
lane_rows-requires c = c.requires.there

pub returns-then-is_counted : goal.returns-then-is_counted
returns-then-is_counted c = λ row col r l.
    is_united _ (tile_at c.args.rows.now row col) (tile_at c.lane_rows.result row col) (in_lane_tiles c.args.layout.now c.args.lane row col) (is_other c.args.except c.args.lane && has_lane c.args.lanes c.args.lane) c.is_counted.result
    c.is_counted.ensures c.if-is_counted.true (c.unite.ensures row col r) (c.lane_rows.ensures row col r l)

pub returns-else-is_counted : goal.returns-else-is_counted
returns-else-is_counted c = λ row col r l.
    is_left (tile_at c.args.rows.now row col) (in_lane_tiles c.args.layout.now c.args.lane row col) (is_other c.args.except c.args.lane && has_lane c.args.lanes c.args.lane) c.is_counted.result
    c.is_counted.ensures c.if-is_counted.false
