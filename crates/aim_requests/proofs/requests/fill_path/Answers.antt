use Rattle.std.proofs.Common.{◌≡◌, ◌+◌, arith, refl}
use Rattle.aim_geometry.specs.Bounded.{ceil_div}
use Rattle.aim_layout.specs.Intersection.{stations}
use Rattle.aim_footprint.proofs.GoodLemmas.{path_within}
use Rattle.aim_requests.proofs.requests.fill_path.Goals as goal

pub fill_rects-requires-clause-inside : goal.fill_rects-requires-clause-inside
fill_rects-requires-clause-inside c =
    rw (c.stations.ensures.stations, c.ground-ground.ensures.grid) (path_within c.args.layout.now c.args.params.now c.args.path.now c.ground-ground.ensures.valid c.requires.found)

pub fill_rects-requires-clause-valid : goal.fill_rects-requires-clause-valid
fill_rects-requires-clause-valid c = rw c.grid-grid.ensures.grid at c.grid-grid.ensures.valid

pub returns-clause-round : goal.returns-clause-round
returns-clause-round c =
    let i = c.args.layout.now in
    let p = c.args.params.now in
    let here : c.stations.result.now ≡ stations i p.lane p.turn = rw (c.stations.ensures.stations, c.requires.found) refl in
    let same = c.grid-grid.ensures.grid in
    let spacing : c.grid-grid.result.spacing ≡ i.grid.spacing = rw (same, c.ground-ground.ensures.grid) refl in
    let fixed : c.grid-grid.result.fixed ≡ i.grid.fixed = rw (same, c.ground-ground.ensures.grid) refl in
    let half : c.div_ceil.result + c.grid-grid.result.spacing + c.grid-grid.result.fixed ≡ ceil_div p.width 2 + i.grid.spacing + i.grid.fixed = rw (c.div_ceil.ensures, spacing, fixed) (omega arith) in
    rw (← half, ← here, ← c.ground-ground.ensures.grid) c.fill_rects.ensures
