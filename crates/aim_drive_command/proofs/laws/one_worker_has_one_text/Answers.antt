use Rattle.aim_drive_command.proofs.Texts.{same_text, same_shown, front_shown}
use Rattle.aim_drive_command.proofs.laws.one_worker_has_one_text.Goals as goal

pub returns-clause-text : goal.returns-clause-text
returns-clause-text c = same_text

pub returns-clause-shown : goal.returns-clause-shown
returns-clause-shown c = same_shown

pub returns-clause-front : goal.returns-clause-front
returns-clause-front c = front_shown
