use Rattle.std.proofs.Common.{◌≡◌, arith, length-set}
use Rattle.aim_geometry.specs.Ground.{is_touched}
use Rattle.aim_geometry.specs.Rects.{in_rect, IsRect}
use Rattle.aim_geometry.specs.declared.tiles.TileRect.{TileRect}
use Rattle.aim_footprint.specs.Fills.{station_at}
use Rattle.aim_footprint.proofs.Reached.{set_below}
use Rattle.aim_footprint.proofs.fills.fill_rects.Goals as goal

abbrev none : TileRect
none = record { row0 = 0; row1 = 0; col0 = 0; col1 = 0 }

pub loop-j-preserved : goal.loop-j-preserved
loop-j-preserved c =
    let j = c.loop-j.j in
    let g = c.args.ground.now.grid in
    let r = c.tile_rect.ensures.rect in
    let few = c.requires.valid.rows in
    record {
      count = simp length-set c.loop-j.invariant.count;
      rects = set_below (λ _ q. IsRect 64 q) c.loop-j.rects j c.tile_rect.result none (omega arith) c.loop-j.invariant.rects
          (record { rows = r.rows; last_row = let l = r.last_row in omega arith; columns = r.columns; last_column = let l = r.last_column in omega arith });
      exact = λ i row col l. set_below (λ i q. in_rect q row col ≡ is_touched g c.args.half (station_at c.args.stations.now i) row col) c.loop-j.rects j c.tile_rect.result none (omega arith) (λ m b. c.loop-j.invariant.exact m row col b) (c.tile_rect.ensures.exact row col) i l;
    }
