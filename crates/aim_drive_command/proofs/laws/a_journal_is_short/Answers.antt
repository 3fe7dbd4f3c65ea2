use Rattle.aim_drive_command.proofs.Races.{few_entries, one_each_order}
use Rattle.aim_drive_command.proofs.laws.a_journal_is_short.Goals as goal

pub returns-clause-vehicle : goal.returns-clause-vehicle
returns-clause-vehicle c = few_entries

pub returns-clause-orders : goal.returns-clause-orders
returns-clause-orders c = one_each_order
