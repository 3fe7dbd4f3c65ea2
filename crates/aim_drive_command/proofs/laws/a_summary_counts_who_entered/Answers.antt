use Rattle.aim_drive_command.proofs.AtEnd.{summary_counted, traffic_counted}
use Rattle.aim_drive_command.proofs.laws.a_summary_counts_who_entered.Goals as goal

pub returns-clause-entered : goal.returns-clause-entered
returns-clause-entered c = summary_counted

pub returns-clause-all : goal.returns-clause-all
returns-clause-all c = traffic_counted
