use Rattle.aim_replay_command.proofs.ReadLaws.{last_needed}
use Rattle.aim_replay_command.proofs.laws.what_stood_before_a_needed_read_decides_nothing.Goals as goal

pub returns : goal.returns
returns c = last_needed
