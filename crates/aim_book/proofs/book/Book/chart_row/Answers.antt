use Rattle.aim_book.proofs.book.Book.chart_row.Goals as goal

pub chart_row-requires-clause-managed : goal.chart_row-requires-clause-managed
chart_row-requires-clause-managed g c = (c.self.inside.vehicles, c.self.inside.journal.items, c.self.invariant.managed)

pub chart_row-requires-clause-row : goal.chart_row-requires-clause-row
chart_row-requires-clause-row g c = rw (← c.self.view_is) at c.requires

pub returns-clause-held : goal.returns-clause-held
returns-clause-held g c = λ col. rw (← c.self.view_is) (c.chart_row.ensures.held c.self.inside.vehicles c.self.inside.journal.items c.self.invariant.managed col)

pub returns-clause-claimed : goal.returns-clause-claimed
returns-clause-claimed g c = λ col k. rw (← c.self.view_is) (c.chart_row.ensures.claimed c.self.inside.vehicles c.self.inside.journal.items c.self.invariant.managed col k)
