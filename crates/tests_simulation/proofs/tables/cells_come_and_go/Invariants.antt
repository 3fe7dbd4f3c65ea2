use Rattle.tests_simulation.proofs.tables.cells_come_and_go.Given as goal

abbrev pub ghosts-come_and_go : goal.ghosts-come_and_go
ghosts-come_and_go g a = record { name = a.blank.name; parts = a.blank.parts }
