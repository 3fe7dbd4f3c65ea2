use Rattle.std.proofs.Common.{arith}
use Rattle.aim_line_session.proofs.SessionLemmas.{switch_came, switch_unknown, switch_late}
use Rattle.aim_line_session.proofs.progress.Progress.switch.Goals as goal

pub returns-in_default : goal.returns-in_default
returns-in_default g c before st = switch_unknown before c.args.self.now _ _ c.requires.going c.in_default.ensures st

pub returns-then-moment-gt-LATEST_MOMENT : goal.returns-then-moment-gt-LATEST_MOMENT
returns-then-moment-gt-LATEST_MOMENT g c before st = switch_late before c.args.self.now _ _ _ c.requires.going c.in-Some.ensures (omega arith) st

pub returns : goal.returns
returns g c before st = switch_came before c.args.self.now _ _ _ _ _ c.requires.going (omega arith) c.in-Some.ensures st (c.order.ensures before st)
