use Rattle.aim_manager.proofs.Callers.{callers_all}
use Rattle.aim_manager.proofs.manager.Manager.close.Goals as goal

pub close_with-requires-clause-all : goal.close_with-requires-clause-all
close_with-requires-clause-all c = callers_all _ _ _ c.self.invariant.1 (rw (← c.self.view_is) at c.requires.all)

pub returns-clause-legal : goal.returns-clause-legal
returns-clause-legal c = rw (← c.self.view_is, c.into_journal-journal.ensures.journal, c.book.view_is) c.close_with.ensures.lawful.0

pub returns-clause-fits : goal.returns-clause-fits
returns-clause-fits c = rw (← c.self.view_is, c.into_journal-journal.ensures.journal, c.book.view_is) c.close_with.ensures.lawful.1

pub returns-clause-passes : goal.returns-clause-passes
returns-clause-passes c = rw (c.into_journal-journal.ensures.journal, c.book.view_is) c.close_with.ensures.passes

pub returns-clause-numbers : goal.returns-clause-numbers
returns-clause-numbers c = rw (← c.self.view_is, ← c.self.invariant.1) c.close_with.ensures.numbers

pub returns-clause-others : goal.returns-clause-others
returns-clause-others c = rw (← c.self.view_is, c.into_journal-journal.ensures.journal, c.book.view_is, ← c.self.invariant.1) c.close_with.ensures.others

pub returns-clause-count : goal.returns-clause-count
returns-clause-count c = rw (c.into_journal-journal.ensures.journal, c.book.view_is) c.close_with.ensures.count
