use Rattle.std.proofs.Common.{◌≡◌, length, arith, refl}
use Rattle.aim_layout.specs.Intersection.{stations}
use Rattle.aim_footprint.proofs.GoodLemmas.{good_crossing}
use Rattle.aim_requests.proofs.SpanLemmas.{some_steps}
use Rattle.aim_requests.proofs.trials.write_trial.Goals as goal

pub fill_reaches-count-requires-clause-steps : goal.fill_reaches-count-requires-clause-steps
fill_reaches-count-requires-clause-steps c = (good_crossing c.args.layout.now c.args.params.now c.requires.good).steps c.args.fast c.requires.tried

pub write_cells-requires-clause-trial : goal.write_cells-requires-clause-trial
write_cells-requires-clause-trial c =
    let i = c.args.layout.now in
    let p = c.args.params.now in
    let good = good_crossing i p c.requires.good in
    let valid = c.requires.valid in
    let reach = c.fill_reaches-count.ensures.reaches in
    let count = reach.count in
    let few = good.steps c.args.fast c.requires.tried in
    let some = some_steps i p c.args.fast good.moving.speed good.moving.most in
    let here : length (stations i p.lane p.turn) ≡ length c.args.path.now = rw c.requires.found refl in
    let same = c.requires.round.count in
    let parts = c.parts.ensures.parts in
    record {
      grid = valid.sound.grid;
      times = valid.sound.times;
      arrive = good.arrive;
      reach = reach;
      some_steps = rw count some;
      steps = rw count few;
      some = omega arith;
      round = c.requires.round;
    }

pub fill_reaches-count-requires-clause-moving : goal.fill_reaches-count-requires-clause-moving
fill_reaches-count-requires-clause-moving c = (good_crossing c.args.layout.now c.args.params.now c.requires.good).moving

pub fill_reaches-count-requires-clause-path : goal.fill_reaches-count-requires-clause-path
fill_reaches-count-requires-clause-path c =
    let here : length (stations c.args.layout.now c.args.params.now.lane c.args.params.now.turn) ≡ length c.args.path.now = rw c.requires.found refl in
    rw here (let parts = c.parts.ensures.parts in omega arith)

pub fill_reaches-count-requires-clause-parts : goal.fill_reaches-count-requires-clause-parts
fill_reaches-count-requires-clause-parts c =
    let here : length (stations c.args.layout.now c.args.params.now.lane c.args.params.now.turn) ≡ length c.args.path.now = rw c.requires.found refl in
    rw here (let parts = c.parts.ensures.parts in omega arith)

pub fill_reaches-count-requires-clause-few : goal.fill_reaches-count-requires-clause-few
fill_reaches-count-requires-clause-few c = c.parts.ensures.most

pub write_cells-requires-clause-empty : goal.write_cells-requires-clause-empty
write_cells-requires-clause-empty c = c.requires.empty

pub returns-clause-cells : goal.returns-clause-cells
returns-clause-cells c = c.in_ok-write_cells.ensures.cells

pub returns-clause-spans : goal.returns-clause-spans
returns-clause-spans c = c.in_ok-write_cells.ensures.count

pub returns-clause-steps : goal.returns-clause-steps
returns-clause-steps c = c.fill_reaches-count.ensures.count

pub slice_bounds-reaches-end : goal.slice_bounds-reaches-end
slice_bounds-reaches-end c =
    let steps = (good_crossing c.args.layout.now c.args.params.now c.requires.good).steps c.args.fast c.requires.tried in
    omega (arith, steps, c.fill_reaches-count.ensures.count, c.type_inv.reaches)

pub overflow_cast-result : goal.overflow_cast-result
overflow_cast-result c =
    let steps = (good_crossing c.args.layout.now c.args.params.now c.requires.good).steps c.args.fast c.requires.tried in
    omega (arith, steps, c.fill_reaches-count.ensures.count)
