use Rattle.std.proofs.Common.{◌≡◌, ◌+◌, ◌*◌, ◌/◌, ◌<◌, ◌≤◌, arith, leb-true, refl}
use Rattle.std.proofs.lemmas.Bool.{leb-false}
use Rattle.aim_footprint.proofs.GoodLemmas.{good_crossing}
use Rattle.aim_requests.proofs.BoundLemmas.{fits_sheet}
use Rattle.aim_requests.proofs.bounds.has_room.Goals as goal

pub returns-clause-room : goal.returns-clause-room
returns-clause-room c = λ t.
    let i = c.args.layout.now in
    let p = c.args.params.now in
    let m = (good_crossing i p c.requires.good).moving in
    let edge : c.times.result.edge ≡ i.times.edge = rw (c.times.ensures.times, c.ground-2.ensures.times) refl in
    let spans : c.grid-grid.result.spans ≡ i.grid.spans = rw (c.grid-grid.ensures.grid, c.ground.ensures.grid) refl in
    let n : c.grid-grid.result.n ≡ i.grid.n = rw (c.grid-grid.ensures.grid, c.ground.ensures.grid) refl in
    let l : c.steady_steps.result + 2 * c.times.result.edge ≤ i.grid.spans / i.grid.n = rw (spans, n) at (leb-true _ _ t) in
    fits_sheet i p (c.steady_steps.result + 2 * c.times.result.edge) m.speed m.most (omega (arith, edge, c.steady_steps.ensures.steps)) l

pub returns-clause-none : goal.returns-clause-none
returns-clause-none c = λ t.
    let i = c.args.layout.now in
    let edge : c.times.result.edge ≡ i.times.edge = rw (c.times.ensures.times, c.ground-2.ensures.times) refl in
    let spans : c.grid-grid.result.spans ≡ i.grid.spans = rw (c.grid-grid.ensures.grid, c.ground.ensures.grid) refl in
    let n : c.grid-grid.result.n ≡ i.grid.n = rw (c.grid-grid.ensures.grid, c.ground.ensures.grid) refl in
    let l : i.grid.spans / i.grid.n < c.steady_steps.result + 2 * c.times.result.edge = rw (spans, n) at (leb-false _ _ t) in
    omega (arith, l, edge, c.steady_steps.ensures.steps)
