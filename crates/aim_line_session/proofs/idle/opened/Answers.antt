use Rattle.aim_line_session.proofs.IdleLemmas.{opens_in}
use Rattle.aim_line_session.proofs.idle.opened.Goals as goal

pub returns-in-Ok : goal.returns-in-Ok
returns-in-Ok g c before set = opens_in before c.args.setting c.leave.result _ c.leave.ensures (c.in-Ok.ensures before set)
