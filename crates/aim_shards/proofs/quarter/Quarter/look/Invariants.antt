use Rattle.aim_shards.proofs.quarter.Quarter.look.Given as goal

abbrev pub ghosts-clear : goal.ghosts-clear
ghosts-clear a = record { name = a.blank.name; parts = a.blank.parts }
