use Rattle.tests_manager.proofs.threads.threads_are_answered_as_one.Given as goal

abbrev pub ghosts-run : goal.ghosts-run
ghosts-run g a = record { name = a.blank.name; parts = a.blank.parts }
