use Rattle.bench_manager.proofs.taken.Given as goal

abbrev pub ghosts-over_mailbox : goal.ghosts-over_mailbox
ghosts-over_mailbox g a = record { name = a.blank.name; parts = a.blank.parts }
