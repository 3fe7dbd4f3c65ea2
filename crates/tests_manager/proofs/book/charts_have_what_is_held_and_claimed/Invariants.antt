use Rattle.tests_manager.proofs.book.charts_have_what_is_held_and_claimed.Given as goal

abbrev pub ghosts-draw : goal.ghosts-draw
ghosts-draw g a = record { name = a.blank.name; parts = a.blank.parts }
