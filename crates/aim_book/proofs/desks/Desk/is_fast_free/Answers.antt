use Rattle.std.proofs.Common.{◌+◌, ◌≤◌, length, refl, subst, true}
use Rattle.aim_book.proofs.FreeLemmas.{asked_of, fast_first, fast_is, fast_none, tiles_of}
use Rattle.aim_book.proofs.desks.Desk.is_fast_free.Goals as goal

pub is_free-requires-clause-tiles : goal.is_free-requires-clause-tiles
is_free-requires-clause-tiles g c =
    tiles_of c.args.layout.now c.args.params.now true c.in-Some.sheet.now.spans (fast_is c.args.layout.now c.args.params.now c.args.prepared.now c.in-Some.sheet.now c.requires.asking c.requires.good c.in-Some.ensures).1

pub returns-in-Some-clause-free : goal.returns-in-Some-clause-free
returns-in-Some-clause-free g c = λ k place tells.
    let fast = fast_is c.args.layout.now c.args.params.now c.args.prepared.now c.in-Some.sheet.now c.requires.asking c.requires.good c.in-Some.ensures in
    let asked = asked_of c.args.layout.now c.args.vehicle place k c.args.params.now true c.in-Some.sheet.now.spans c.args.self.now tells fast.1 c.requires.ahead in
    rw fast.0 (c.is_free.ensures.free k c.args.params.now true place tells asked refl)

pub returns-in-Some-clause-cost : goal.returns-in-Some-clause-cost
returns-in-Some-clause-cost g c =
    subst (λ sheet. c.is_free.new.steps ≤ c.args.steps.now + length sheet.spans) (fast_first c.args.layout.now c.args.params.now c.args.prepared.now c.in-Some.sheet.now c.requires.asking c.requires.good c.in-Some.ensures) c.is_free.ensures.cost

pub returns-in-None-clause-free : goal.returns-in-None-clause-free
returns-in-None-clause-free g c = λ k place tells. rw (fast_none c.args.layout.now c.args.params.now c.args.prepared.now c.requires.asking c.requires.good c.in-None.ensures) refl
