use Rattle.aim_drive_command.proofs.Races.{alone, alone_text}
use Rattle.aim_drive_command.proofs.laws.workers_matter_only_where_calls_race.Goals as goal

pub returns-clause-run : goal.returns-clause-run
returns-clause-run c = alone

pub returns-clause-text : goal.returns-clause-text
returns-clause-text c = alone_text
