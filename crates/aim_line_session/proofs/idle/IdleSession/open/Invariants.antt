use Rattle.aim_line_session.proofs.idle.IdleSession.open.Given as goal

abbrev pub ghosts-opened : goal.ghosts-opened
ghosts-opened a = record { name = a.blank.name; parts = a.blank.parts }
