use Rattle.aim_manager.proofs.keeper.KeeperKept.apply.Given as goal

abbrev pub ghosts-answer : goal.ghosts-answer
ghosts-answer a = record { name = a.blank.name; parts = a.blank.parts }
