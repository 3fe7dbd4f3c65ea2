use Rattle.aim_io.proofs.WindowLemmas.{window}
use Rattle.aim_session_command.proofs.ahead.Ahead.has_line.Goals as goal

pub returns : goal.returns
returns c = rw (← c.self.view_is) (rw (window c.self.inside.bytes c.self.inside.start c.self.inside.end c.self.invariant.0) c.ends_line.ensures)
