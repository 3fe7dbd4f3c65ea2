use Rattle.std.proofs.Common.{◌≡◌, ◌+◌, ◌<◌, length, take, arith, refl, sym, ap, subst, ◌∙◌}
use Rattle.aim_geometry.specs.Bounded.{ceil_div}
use Rattle.aim_layout.specs.Intersection.{stations}
use Rattle.aim_footprint.specs.Fills.{AreRectsOf}
use Rattle.aim_footprint.specs.Reaches.{AreReaches}
use Rattle.aim_footprint.specs.Visits.{IsFootprint, ShowsStep}
use Rattle.aim_footprint.proofs.GoodLemmas.{good_crossing, path_within}
use Rattle.aim_footprint.proofs.Footprints.{reached_footprint}
use Rattle.aim_footprint.proofs.Visiting.{visited_as}
use Rattle.aim_footprint.proofs.visits.lead.Goals as goal

pub fill_rects-requires-clause-inside : goal.fill_rects-requires-clause-inside
fill_rects-requires-clause-inside g c =
    rw (c.stations.ensures.stations, c.ground-ground.ensures.grid) (path_within c.args.layout.now c.args.params.now c.args.path.now c.ground-ground.ensures.valid c.requires.found)

pub fill_rects-requires-clause-valid : goal.fill_rects-requires-clause-valid
fill_rects-requires-clause-valid g c = rw c.grid.ensures.grid at c.grid.ensures.valid

pub fill_reaches-count-requires-clause-moving : goal.fill_reaches-count-requires-clause-moving
fill_reaches-count-requires-clause-moving g c = (good_crossing c.args.layout.now c.args.params.now c.requires.good).moving

pub fill_reaches-count-requires-clause-steps : goal.fill_reaches-count-requires-clause-steps
fill_reaches-count-requires-clause-steps g c = (good_crossing c.args.layout.now c.args.params.now c.requires.good).steps c.args.accelerate c.requires.tried

pub returns-clause-visits : goal.returns-clause-visits
returns-clause-visits g c =
    let i = c.args.layout.now in
    let p = c.args.params.now in
    let fast = c.args.accelerate in
    let rects = c.fill_rects.new.rects in
    let n = c.fill_reaches-count.result in
    let reaches = take n c.fill_reaches-count.new.reaches in
    let reach = c.fill_reaches-count.ensures.reaches in
    let here : c.stations.result.now ≡ stations i p.lane p.turn = rw (c.stations.ensures.stations, c.requires.found) refl in
    let spacing : c.grid.result.spacing ≡ i.grid.spacing = rw (c.grid.ensures.grid, c.ground-ground.ensures.grid) refl in
    let half : c.div_ceil.result + c.grid.result.spacing + c.args.extra ≡ ceil_div p.width 2 + i.grid.spacing + c.args.extra = rw (c.div_ceil.ensures, spacing) (omega arith) in
    let round : AreRectsOf i.grid (ceil_div p.width 2 + i.grid.spacing + c.args.extra) (stations i p.lane p.turn) rects = rw (← half, ← here, ← c.ground-ground.ensures.grid) c.fill_rects.ensures in
    let some : 0 < length rects = let e = round.count in let l = c.stations.ensures.some in let h : length c.stations.result.now ≡ length (stations i p.lane p.turn) = rw here refl in omega arith in
    let many : length reaches ≡ n = reach.count ∙ sym c.fill_reaches-count.ensures.count in
    visited_as g.V.Visit.visits (ShowsStep rects reaches) (IsFootprint i p fast c.args.extra) n c.args.visit.now c.run.new.visit
    (λ k rows masks l s. record {
      count = s.count;
      words = s.words;
      tiles = λ row col rl cl. s.tiles row col rl cl ∙ reached_footprint i p fast c.args.extra rects reaches k row col round reach some (rw many l);
      range = s.range;
    })
    (rw many at c.run.ensures)

pub returns-clause-count : goal.returns-clause-count
returns-clause-count g c = c.fill_reaches-count.ensures.count

pub fill_rects-requires-clause-room : goal.fill_rects-requires-clause-room
fill_rects-requires-clause-room g c = rw c.stations.ensures.stations c.requires.room

pub fill_reaches-count-requires-clause-path : goal.fill_reaches-count-requires-clause-path
fill_reaches-count-requires-clause-path g c =
    let here : length (stations c.args.layout.now c.args.params.now.lane c.args.params.now.turn) ≡ length c.args.path.now = rw c.requires.found refl in
    let parts = c.parts.ensures.parts in
    omega arith

pub fill_reaches-count-requires-clause-parts : goal.fill_reaches-count-requires-clause-parts
fill_reaches-count-requires-clause-parts g c =
    let here : length (stations c.args.layout.now c.args.params.now.lane c.args.params.now.turn) ≡ length c.args.path.now = rw c.requires.found refl in
    let parts = c.parts.ensures.parts in
    omega arith

pub fill_reaches-count-requires-clause-few : goal.fill_reaches-count-requires-clause-few
fill_reaches-count-requires-clause-few g c = c.parts.ensures.most

pub run-requires-clause-rects : goal.run-requires-clause-rects
run-requires-clause-rects g c = c.fill_rects.ensures.whole

pub run-requires-clause-few : goal.run-requires-clause-few
run-requires-clause-few g c =
    let count = c.fill_reaches-count.ensures.reaches.count in
    let steps = (good_crossing c.args.layout.now c.args.params.now c.requires.good).steps c.args.accelerate c.requires.tried in
    omega arith

pub run-requires-clause-reaches : goal.run-requires-clause-reaches
run-requires-clause-reaches g c =
    let here : c.stations.result.now ≡ stations c.args.layout.now c.args.params.now.lane c.args.params.now.turn = rw (c.stations.ensures.stations, c.requires.found) refl in
    subst (λ n. AreReaches n (take c.fill_reaches-count.result c.fill_reaches-count.new.reaches)) (sym (c.fill_rects.ensures.count ∙ ap length here)) c.fill_reaches-count.ensures.reaches.order

pub slice_bounds-reaches-end : goal.slice_bounds-reaches-end
slice_bounds-reaches-end g c =
    let steps = (good_crossing c.args.layout.now c.args.params.now c.requires.good).steps c.args.accelerate c.requires.tried in
    omega (arith, steps, c.fill_reaches-count.ensures.count, c.type_inv.reaches)

pub run-requires-clause-some : goal.run-requires-clause-some
run-requires-clause-some g c = omega (arith, c.fill_rects.ensures.count, c.stations.ensures.some)

pub overflow_cast-result : goal.overflow_cast-result
overflow_cast-result g c =
    let steps = (good_crossing c.args.layout.now c.args.params.now c.requires.good).steps c.args.accelerate c.requires.tried in
    omega (arith, steps, c.fill_reaches-count.ensures.count)
