use Rattle.tests_simulation.proofs.reservations.a_vehicle_finds_the_tiles_of_another.Given as goal

abbrev pub ghosts-look : goal.ghosts-look
ghosts-look g a = record { name = a.blank.name; parts = a.blank.parts }
