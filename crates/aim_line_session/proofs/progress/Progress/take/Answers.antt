use Rattle.aim_line_session.proofs.SessionLemmas.{end_came}
use Rattle.aim_line_session.proofs.progress.Progress.take.Goals as goal

pub returns-in-End : goal.returns-in-End
returns-in-End g c before st = rw c.in-End.is (end_came before c.args.self.now c.if-self.false st)
