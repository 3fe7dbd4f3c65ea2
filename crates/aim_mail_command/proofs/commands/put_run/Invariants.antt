use Rattle.aim_mail_command.proofs.commands.put_run.Given as goal

abbrev pub ghosts-text_of_run : goal.ghosts-text_of_run
ghosts-text_of_run g a = record { name = a.blank.name; parts = a.blank.parts }
