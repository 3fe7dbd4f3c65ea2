use Rattle.aim_book.proofs.EntryLemmas.{in_any}
use Rattle.aim_book.proofs.idle.IdleBook.join.Goals as goal

pub invariant_of-result : goal.invariant_of-result
invariant_of-result g c =
    let b = c.self.inside in
    rw c.join.ensures (in_any b.layout b.vehicles b.room b.journal.items _ b.desk c.self.invariant)
