use Rattle.aim_line_session.proofs.idle.IdleSession.take.Given as goal

abbrev pub ghosts-taken : goal.ghosts-taken
ghosts-taken a = record { name = a.blank.name; parts = a.blank.parts }
