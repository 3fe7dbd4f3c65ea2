use Rattle.aim_line_session.proofs.IdleLemmas.{charted_in, stands_there}
use Rattle.aim_line_session.proofs.idle.charted.Goals as goal

pub chart_row-marks-requires-clause-stands : goal.chart_row-marks-requires-clause-stands
chart_row-marks-requires-clause-stands g c = let st = c.requires.stands in (st.0, stands_there st.0 c.args.progress _ c.join-progress.ensures st.1)

pub returns-clause-marks : goal.returns-clause-marks
returns-clause-marks g c before st = charted_in before c.args.progress _ _ _ _ _ c.join-progress.ensures (c.chart_row-marks.ensures before) st
