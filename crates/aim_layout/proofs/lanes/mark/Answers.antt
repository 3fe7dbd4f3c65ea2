use Rattle.std.proofs.Common.{◌∙◌, ap, get_or}
use Rattle.std.proofs.lemmas.Option.{slice_get-get_or}
use Rattle.aim_geometry.specs.Rects.{tile_at, in_rect}
use Rattle.aim_geometry.specs.Ground.{is_touched}
use Rattle.aim_layout.proofs.LaneTileLemmas.{met_by_one_more}
use Rattle.aim_layout.proofs.lanes.mark.Goals as goal

pub loop-station-preserved : goal.loop-station-preserved
loop-station-preserved c = λ row col r l.
    met_by_one_more c.args.ground.now.grid c.args.stations.now c.loop-station.station-index (record { x = 0; y = 0 }) row col
    (tile_at c.args.rows.now row col) (tile_at c.loop-station.rows row col) (tile_at c.join.new.rows row col) (in_rect c.tile_rect.result row col)
    c.loop-station-test.true (c.loop-station.invariant row col r l) (c.join.ensures row col r l)
    (c.tile_rect.ensures.exact row col ∙ ap (λ g. is_touched c.args.ground.now.grid g.half (get_or c.args.stations.now c.loop-station.station-index (record { x = 0; y = 0 })) row col) c.grid-half.ensures.grid)

pub tile_rect-requires-clause-x : goal.tile_rect-requires-clause-x
tile_rect-requires-clause-x c =
    (c.requires c.loop-station.station-index (get_or c.args.stations.now c.loop-station.station-index (record { x = 0; y = 0 }))
    (slice_get-get_or c.args.stations.now c.loop-station.station-index (record { x = 0; y = 0 }) c.loop-station-test.true)).0

pub tile_rect-requires-clause-y : goal.tile_rect-requires-clause-y
tile_rect-requires-clause-y c =
    (c.requires c.loop-station.station-index (get_or c.args.stations.now c.loop-station.station-index (record { x = 0; y = 0 }))
    (slice_get-get_or c.args.stations.now c.loop-station.station-index (record { x = 0; y = 0 }) c.loop-station-test.true)).1
