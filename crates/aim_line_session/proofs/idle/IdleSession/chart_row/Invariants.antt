use Rattle.aim_line_session.proofs.idle.IdleSession.chart_row.Given as goal

abbrev pub ghosts-charted : goal.ghosts-charted
ghosts-charted a = record { name = a.blank.name; parts = a.blank.parts }
