use Rattle.bench_parts.proofs.book.run.Given as goal

abbrev pub ghosts-pass_day : goal.ghosts-pass_day
ghosts-pass_day a = record { name = a.blank.name; parts = a.blank.parts }
