use Rattle.std.proofs.Common.{sym, ◌∙◌}
use Rattle.aim_geometry.specs.Cells.{cell_at}
use Rattle.aim_book.proofs.ConflictLemmas.{none_blocked, some_blocked, some_inside}
use Rattle.aim_book.proofs.StepLemmas.{least_inside}
use Rattle.aim_book.proofs.desks.Desk.conflict.Goals as goal

pub returns-in-Some-clause-reason : goal.returns-in-Some-clause-reason
returns-in-Some-clause-reason g c = λ k p fast place tells asked lane.
    let times = tells.valid.sound.times in
    let at = cell_at c.in-Some.cell.0 c.in-Some.cell.1 c.in-Some.cell.2 in
    let inside = some_inside c.args.layout.now c.args.vehicle place c.args.lane k p c.args.self.now tells lane fast c.args.sheet.now.spans times.early times.late asked at c.in-Some.ensures.least in
    c.why_blocked.ensures k p place tells lane inside.2
    ∙ sym (some_blocked c.args.layout.now c.args.vehicle place c.args.lane k p c.args.self.now tells lane fast c.args.sheet.now.spans times.early times.late asked at c.in-Some.ensures.least)

pub returns-in-None-clause-reason : goal.returns-in-None-clause-reason
returns-in-None-clause-reason g c = λ k p fast place tells asked lane.
    let times = tells.valid.sound.times in
    sym (none_blocked c.args.layout.now c.args.vehicle place c.args.lane k p c.args.self.now tells lane fast c.args.sheet.now.spans times.early times.late asked c.in-None.ensures.least)

pub why_blocked-requires-clause-row : goal.why_blocked-requires-clause-row
why_blocked-requires-clause-row g c = (least_inside c.args.layout.now.grid.n c.in-Some.cell.0 c.in-Some.cell.1 c.in-Some.cell.2 c.args.sheet.now.spans _ c.requires.tiles c.in-Some.ensures.least).0

pub why_blocked-requires-clause-col : goal.why_blocked-requires-clause-col
why_blocked-requires-clause-col g c = (least_inside c.args.layout.now.grid.n c.in-Some.cell.0 c.in-Some.cell.1 c.in-Some.cell.2 c.args.sheet.now.spans _ c.requires.tiles c.in-Some.ensures.least).1
