use Rattle.aim_replay_command.proofs.ReadLaws.{stops_short}
use Rattle.aim_replay_command.proofs.laws.what_is_read_of_a_source_that_fails_decides_nothing.Goals as goal

pub returns : goal.returns
returns c = stops_short
