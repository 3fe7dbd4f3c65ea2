use Rattle.std.proofs.Common.{Some, None}
use Rattle.aim_book.proofs.ConflictLemmas.{free_is}
use Rattle.aim_book.proofs.desks.Desk.is_free.Goals as goal

pub returns-in-Some-clause-free : goal.returns-in-Some-clause-free
returns-in-Some-clause-free g c = λ k p fast place tells asked lane.
    let times = tells.valid.sound.times in
    free_is c.args.layout.now c.args.vehicle place c.args.lane k p c.args.self.now tells lane fast c.args.sheet.now.spans times.early times.late asked (Some c.in-Some.field-0) c.in-Some.ensures.least

pub returns-in-None-clause-free : goal.returns-in-None-clause-free
returns-in-None-clause-free g c = λ k p fast place tells asked lane.
    let times = tells.valid.sound.times in
    free_is c.args.layout.now c.args.vehicle place c.args.lane k p c.args.self.now tells lane fast c.args.sheet.now.spans times.early times.late asked None c.in-None.ensures.least
