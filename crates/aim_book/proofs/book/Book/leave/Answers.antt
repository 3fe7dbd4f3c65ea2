use Rattle.aim_book.proofs.EntryLemmas.{in_any}
use Rattle.aim_book.proofs.book.Book.leave.Goals as goal

pub invariant_of-result : goal.invariant_of-result
invariant_of-result g c =
    let b = c.self.inside in
    in_any b.layout b.vehicles b.room b.journal.items _ c.leave.result (rw c.leave.ensures at c.self.invariant)
