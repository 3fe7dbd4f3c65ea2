use Rattle.std.proofs.Common.{arith}
use Rattle.aim_line_session.proofs.SessionLemmas.{stop_came}
use Rattle.aim_line_session.proofs.progress.Progress.stop.Goals as goal

pub returns : goal.returns
returns g c before st = stop_came before c.args.self.now _ _ _ c.requires.going (omega arith) st (c.order.ensures before st)
