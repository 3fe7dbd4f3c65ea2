use Rattle.aim_drive_command.proofs.Spelling.{text_is_read}
use Rattle.aim_drive_command.proofs.laws.text_of_traffic_is_read.Goals as goal

pub returns : goal.returns
returns c number count some few = text_is_read number count some few
