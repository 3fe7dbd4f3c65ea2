use Rattle.std.proofs.Common.{refl}
use Rattle.aim_geometry.specs.Cells.{cell_at}
use Rattle.aim_book.proofs.ConflictLemmas.{blocked_is}
use Rattle.aim_book.proofs.desks.Desk.why_blocked.Goals as goal

pub returns-in-Some : goal.returns-in-Some
returns-in-Some g c = λ k p place tells lane ahead.
    let at = cell_at c.args.cell.0 c.args.cell.1 c.args.cell.2 in
    rw (blocked_is c.args.layout.now c.args.vehicle place c.args.lane k p c.args.self.now tells lane at c.requires.row c.requires.col ahead, ← c.green_lane.ensures.lane, c.in-Some.is) refl

pub returns-in-Some-holder : goal.returns-in-Some-holder
returns-in-Some-holder g c = λ k p place tells lane ahead.
    let at = cell_at c.args.cell.0 c.args.cell.1 c.args.cell.2 in
    rw (blocked_is c.args.layout.now c.args.vehicle place c.args.lane k p c.args.self.now tells lane at c.requires.row c.requires.col ahead, ← c.green_lane.ensures.lane, c.in_default.is, ← c.holder.ensures, c.in-Some-holder.is) refl

pub returns-in-None : goal.returns-in-None
returns-in-None g c = λ k p place tells lane ahead.
    let at = cell_at c.args.cell.0 c.args.cell.1 c.args.cell.2 in
    rw (blocked_is c.args.layout.now c.args.vehicle place c.args.lane k p c.args.self.now tells lane at c.requires.row c.requires.col ahead, ← c.green_lane.ensures.lane, c.in_default.is, ← c.holder.ensures, c.in-None.is) refl
