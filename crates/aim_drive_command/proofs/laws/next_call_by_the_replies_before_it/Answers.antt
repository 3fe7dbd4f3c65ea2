use Rattle.aim_drive_command.proofs.Courses.{next_call}
use Rattle.aim_drive_command.proofs.laws.next_call_by_the_replies_before_it.Goals as goal

pub returns : goal.returns
returns c = next_call
