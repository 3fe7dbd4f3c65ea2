use Rattle.tests_drives.proofs.session.a_line_at_fault_changes_nothing.Given as goal

abbrev pub ghosts-take_lines : goal.ghosts-take_lines
ghosts-take_lines g a = record { name = a.blank.name; parts = a.blank.parts }
