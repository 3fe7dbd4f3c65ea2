use Rattle.aim_line_session.proofs.IdleLemmas.{stands_there, taken_in}
use Rattle.aim_line_session.proofs.idle.taken.Goals as goal

pub take-taken-requires-clause-stands : goal.take-taken-requires-clause-stands
take-taken-requires-clause-stands g c = let st = c.requires.stands in (st.0, stands_there st.0 c.args.progress _ c.join-progress.ensures st.1)

pub returns : goal.returns
returns g c before st =
    taken_in before c.args.line.now c.args.progress c.leave.result _ _ _ c.join-progress.ensures c.leave.ensures (c.take-taken.ensures before) st
