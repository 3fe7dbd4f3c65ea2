use Rattle.aim_drive_command.proofs.AtEnd.{each_come, all_counted, entered_counted}
use Rattle.aim_drive_command.proofs.laws.each_driver_ends_as_one_of_six.Goals as goal

pub returns-clause-each : goal.returns-clause-each
returns-clause-each c = each_come

pub returns-clause-all : goal.returns-clause-all
returns-clause-all c = all_counted

pub returns-clause-entered : goal.returns-clause-entered
returns-clause-entered c = entered_counted
