use Rattle.std.proofs.Common.{◌<◌, ◌∙◌, ap}
use Rattle.aim_book.specs.Keeping.{row_count}
use Rattle.aim_book.specs.Rows.{row_of}
use Rattle.aim_book.proofs.SheetLemmas.{count_is}
use Rattle.aim_book.proofs.book.Book.kept.Goals as goal

pub returns-in-Some : goal.returns-in-Some
returns-in-Some g c =
    let b = c.self.inside in
    let m = c.self.invariant.managed in
    let l : c.args.vehicle < b.vehicles = rw (← c.self.view_is) at c.requires in
    rw (← c.self.view_is) (ap row_count c.in-Some.ensures ∙ count_is b.layout b.vehicles b.journal.items c.args.vehicle (row_of b.desk.reservations.rows.items c.args.vehicle) m.legal (m.desk.reserved.rows c.args.vehicle l))

pub returns-in-None : goal.returns-in-None
returns-in-None g c =
    let b = c.self.inside in
    let m = c.self.invariant.managed in
    let l : c.args.vehicle < b.vehicles = rw (← c.self.view_is) at c.requires in
    rw (← c.self.view_is) (ap row_count c.in-None.ensures ∙ count_is b.layout b.vehicles b.journal.items c.args.vehicle (row_of b.desk.reservations.rows.items c.args.vehicle) m.legal (m.desk.reserved.rows c.args.vehicle l))
