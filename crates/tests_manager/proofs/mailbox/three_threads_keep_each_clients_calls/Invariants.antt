use Rattle.tests_manager.proofs.mailbox.three_threads_keep_each_clients_calls.Given as goal

abbrev pub ghosts-mailed : goal.ghosts-mailed
ghosts-mailed g a = record { name = a.blank.name; parts = a.blank.parts }
