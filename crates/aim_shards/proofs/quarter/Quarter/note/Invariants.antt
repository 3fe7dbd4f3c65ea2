use Rattle.aim_shards.proofs.quarter.Quarter.note.Given as goal

abbrev pub ghosts-change : goal.ghosts-change
ghosts-change a = record { name = a.blank.name; parts = a.blank.parts }
