use Rattle.aim_io.proofs.WindowLemmas.{window}
use Rattle.aim_io.proofs.lines.LineReader.is_open.Goals as goal

pub returns-clause-yes : goal.returns-clause-yes
returns-clause-yes c = rw (← c.self.view_is) (rw (window c.self.inside.bytes c.self.inside.start c.self.inside.end c.self.invariant.0) c.leaves_open.ensures.yes)

pub returns-clause-no : goal.returns-clause-no
returns-clause-no c = rw (← c.self.view_is) (rw (window c.self.inside.bytes c.self.inside.start c.self.inside.end c.self.invariant.0) c.leaves_open.ensures.no)
