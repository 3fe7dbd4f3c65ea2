use Rattle.aim_drive_command.proofs.Texts.{same_summary, same_counts, front_counted}
use Rattle.aim_drive_command.proofs.laws.generated_traffic_has_one_summary.Goals as goal

pub returns-clause-text : goal.returns-clause-text
returns-clause-text c = same_summary

pub returns-clause-shown : goal.returns-clause-shown
returns-clause-shown c = same_counts

pub returns-clause-front : goal.returns-clause-front
returns-clause-front c = front_counted
