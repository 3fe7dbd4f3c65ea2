use Rattle.std.proofs.Common.{refl}
use Rattle.aim_rules.specs.Trials.{judged}
use Rattle.aim_book.proofs.FreeLemmas.{asked_of, tiles_of}
use Rattle.aim_book.proofs.desks.Desk.is_start_free.Goals as goal

pub is_free-requires-clause-tiles : goal.is_free-requires-clause-tiles
is_free-requires-clause-tiles g c =
    tiles_of c.args.layout.now c.args.params.now (judged c.args.layout.now c.args.params.now).fast c.in-Some.sheet.now.spans (c.in-Some.ensures.trial c.args.params.now c.requires.asking c.requires.good).cells

pub returns-in-Some-clause-free : goal.returns-in-Some-clause-free
returns-in-Some-clause-free g c = λ k place tells.
    let i = c.args.layout.now in
    let p = c.args.params.now in
    let have = (c.in-Some.ensures.trial p c.requires.asking c.requires.good).cells in
    c.is_free.ensures.free k p (judged i p).fast place tells (asked_of i c.args.vehicle place k p (judged i p).fast c.in-Some.sheet.now.spans c.args.self.now tells have c.requires.ahead) refl
