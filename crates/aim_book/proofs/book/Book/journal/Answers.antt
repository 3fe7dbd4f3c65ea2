use Rattle.std.proofs.Common.{◌∙◌}
use Rattle.aim_book.proofs.book.Book.journal.Goals as goal

pub returns-clause-legal : goal.returns-clause-legal
returns-clause-legal g c = rw (← c.self.view_is) c.self.invariant.managed.legal

pub returns-clause-journal : goal.returns-clause-journal
returns-clause-journal g c = c.deref.ensures.value ∙ (λ j. (c.self.view_is j).journal)
