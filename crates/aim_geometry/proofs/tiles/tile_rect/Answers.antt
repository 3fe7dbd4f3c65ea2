use Rattle.std.proofs.Common.{◌≡◌, ◌/◌, subst}
use Rattle.aim_geometry.specs.declared.tiles.TileRect.{TileRect}
use Rattle.aim_geometry.specs.Ground.{is_touched, meets}
use Rattle.aim_geometry.specs.Rects.{in_rect}
use Rattle.aim_geometry.proofs.RectLemmas.{rect_is_touched}
use Rattle.aim_geometry.proofs.tiles.tile_rect.Goals as goal

pub returns-clause-exact : goal.returns-clause-exact
returns-clause-exact c = λ row col.
    let rows = c.tile_range-row0.ensures in
    let columns = c.tile_range-col0.ensures in
    let rect : TileRect = record { row0 = c.tile_range-row0.result.0; row1 = c.tile_range-row0.result.1; col0 = c.tile_range-col0.result.0; col1 = c.tile_range-col0.result.1 } in
    let tile = c.grid-grid.result.side / c.grid-grid.result.n in
    subst (λ g. in_rect rect row col ≡ is_touched g c.args.half (record { x = c.args.x; y = c.args.y }) row col) c.grid-grid.ensures.grid
    (rect_is_touched rect c.grid-grid.result.n
    (λ i. meets tile c.args.half i c.args.y) (λ i. meets tile c.args.half i c.args.x)
    rows.within columns.within rows.exact columns.exact row col)
