use Rattle.tests_simulation.proofs.plain.as_the_plain_table.Given as goal

abbrev pub ghosts-compare : goal.ghosts-compare
ghosts-compare g a = record { name = a.blank.name; parts = a.blank.parts }
