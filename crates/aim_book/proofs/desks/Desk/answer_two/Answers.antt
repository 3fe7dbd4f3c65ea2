use Rattle.std.proofs.Common.{refl, false, true}
use Rattle.aim_book.proofs.EarlyLemmas.{steady_is}
use Rattle.aim_book.proofs.FreeLemmas.{asked_of, fast_steps, free_fast, free_refused, free_steady, never_none, steady_steps, tiles_of, tried_two}
use Rattle.aim_book.proofs.StepLemmas.{both_cost, steady_second}
use Rattle.aim_book.proofs.desks.Desk.answer_two.Goals as goal

pub returns-then-is_fast_free-clause-reply : goal.returns-then-is_fast_free-clause-reply
returns-then-is_fast_free-clause-reply g c = λ k tells.
    free_fast c.args.layout.now k c.args.params.now c.is_fast_free.result c.confirm.result (c.is_fast_free.ensures.free k c.args.place tells) c.if-is_fast_free.true (c.confirm.ensures k tells.place_is)

pub conflict-requires-clause-tiles : goal.conflict-requires-clause-tiles
conflict-requires-clause-tiles g c =
    tiles_of c.args.layout.now c.args.params.now false c.in-Some.sheet.now.spans (steady_is c.args.layout.now c.args.params.now c.args.prepared.now c.in-Some.sheet.now c.requires.one c.requires.asking c.requires.good c.in-Some.ensures)

pub returns-in-Some-conflict-clause-reply : goal.returns-in-Some-conflict-clause-reply
returns-in-Some-conflict-clause-reply g c = λ k tells.
    let have = steady_is c.args.layout.now c.args.params.now c.args.prepared.now c.in-Some.sheet.now c.requires.one c.requires.asking c.requires.good c.in-Some.ensures in
    let asked = asked_of c.args.layout.now c.args.vehicle c.args.place k c.args.params.now false c.in-Some.sheet.now.spans c.args.self.now tells have c.requires.ahead in
    free_refused c.args.layout.now k c.args.params.now c.is_fast_free.result c.refuse.result c.in-Some-conflict.reason c.conflict.result (c.is_fast_free.ensures.free k c.args.place tells) c.if-is_fast_free.false
    (c.conflict.ensures.reason k c.args.params.now false c.args.place tells asked refl) c.in-Some-conflict.is (c.refuse.ensures k c.args.place tells)

pub returns-in-None-clause-reply : goal.returns-in-None-clause-reply
returns-in-None-clause-reply g c = λ k tells.
    let have = steady_is c.args.layout.now c.args.params.now c.args.prepared.now c.in-Some.sheet.now c.requires.one c.requires.asking c.requires.good c.in-Some.ensures in
    let asked = asked_of c.args.layout.now c.args.vehicle c.args.place k c.args.params.now false c.in-Some.sheet.now.spans c.args.self.now tells have c.requires.ahead in
    free_steady c.args.layout.now k c.args.params.now c.is_fast_free.result c.confirm-in-None.result c.conflict.result (c.is_fast_free.ensures.free k c.args.place tells) c.if-is_fast_free.false
    (c.conflict.ensures.reason k c.args.params.now false c.args.place tells asked refl) c.in-None.is (c.confirm-in-None.ensures k tells.place_is)

pub confirm-requires-clause-steps : goal.confirm-requires-clause-steps
confirm-requires-clause-steps g c =
    fast_steps c.args.layout.now c.args.params.now c.args.prepared.now c.steps.result c.requires.asking c.requires.good (c.is_fast_free.ensures.made c.if-is_fast_free.true) c.steps.ensures

pub confirm-requires-in-None-clause-steps : goal.confirm-requires-in-None-clause-steps
confirm-requires-in-None-clause-steps g c =
    steady_steps c.args.layout.now c.args.params.now c.args.prepared.now c.steps-in-None.result c.requires.one c.requires.asking c.requires.good c.steps-in-None.ensures

pub unreachable-requires : goal.unreachable-requires
unreachable-requires g c =
    never_none c.args.layout.now c.args.params.now c.args.prepared.now (λ sheet. sheet.now) c.cells_b.result c.requires.asking c.requires.good c.cells_b.ensures c.in_default.is

pub returns-in-Some-conflict-clause-cost : goal.returns-in-Some-conflict-clause-cost
returns-in-Some-conflict-clause-cost g c =
    both_cost c.conflict.new.steps c.is_fast_free.new.steps c.args.steps.now _ c.in-Some.sheet.now c.args.prepared.now.second
    (steady_second c.args.layout.now c.args.params.now c.args.prepared.now c.in-Some.sheet.now c.requires.asking c.requires.good c.in-Some.ensures) c.is_fast_free.ensures.cost c.conflict.ensures.cost

pub returns-in-None-clause-cost : goal.returns-in-None-clause-cost
returns-in-None-clause-cost g c =
    both_cost c.conflict.new.steps c.is_fast_free.new.steps c.args.steps.now _ c.in-Some.sheet.now c.args.prepared.now.second
    (steady_second c.args.layout.now c.args.params.now c.args.prepared.now c.in-Some.sheet.now c.requires.asking c.requires.good c.in-Some.ensures) c.is_fast_free.ensures.cost c.conflict.ensures.cost

pub refuse-requires-clause-row : goal.refuse-requires-clause-row
refuse-requires-clause-row g c = c.requires.row

pub refuse-requires-clause-there : goal.refuse-requires-clause-there
refuse-requires-clause-there g c = c.requires.caller

pub confirm-requires-clause-tried : goal.confirm-requires-clause-tried
confirm-requires-clause-tried g c = tried_two c.args.layout.now c.args.params.now true c.requires.one

pub confirm-requires-in-None-clause-tried : goal.confirm-requires-in-None-clause-tried
confirm-requires-in-None-clause-tried g c = tried_two c.args.layout.now c.args.params.now false c.requires.one
