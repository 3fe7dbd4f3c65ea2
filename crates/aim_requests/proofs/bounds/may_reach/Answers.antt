use Rattle.std.proofs.Common.{◌≡◌, arith, refl}
use Rattle.std.proofs.lemmas.Bool.{ltb-false, ltb-true}
use Rattle.aim_rules.specs.Trials.{judged}
use Rattle.aim_footprint.proofs.GoodLemmas.{good_crossing}
use Rattle.aim_requests.proofs.BoundLemmas.{none_far}
use Rattle.aim_requests.proofs.bounds.may_reach.Goals as goal

pub returns-clause-none : goal.returns-clause-none
returns-clause-none c = λ t.
    let i = c.args.layout.now in
    let p = c.args.params.now in
    let times = c.ground.ensures.valid.sound.times in
    let l = ltb-false _ _ t in
    let edge : c.times-edge.result.edge ≡ i.times.edge = rw (c.times-edge.ensures.times, c.ground.ensures.times) refl in
    let m = (good_crossing i p c.requires.good).moving in
    none_far i p (judged i p).fast c.args.step m.speed m.most times.early times.late (omega (arith, l, edge, c.steady_steps.ensures.steps))

pub returns-clause-within : goal.returns-clause-within
returns-clause-within c = λ t.
    let l = ltb-true _ _ t in
    let edge : c.times-edge.result.edge ≡ c.args.layout.now.times.edge = rw (c.times-edge.ensures.times, c.ground.ensures.times) refl in
    omega (arith, l, edge, c.steady_steps.ensures.steps)
