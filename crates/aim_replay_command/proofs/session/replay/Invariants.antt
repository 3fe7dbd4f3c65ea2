use Rattle.aim_replay_command.proofs.session.replay.Given as goal

abbrev pub ghosts-replay_script : goal.ghosts-replay_script
ghosts-replay_script g a = record { name = a.blank.name; parts = a.blank.parts }
