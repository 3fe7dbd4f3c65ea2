use Rattle.aim_drive_command.proofs.Bodies.{whole}
use Rattle.aim_drive_command.proofs.laws.traffic_is_a_drive.Goals as goal

pub returns : goal.returns
returns c number count some few = (whole number count some few).drive
