use Rattle.aim_rules.proofs.VehicleLaws.{standing_next-snoc}
use Rattle.aim_rules.proofs.growth.standing_next_of_one_more.Goals as goal

pub returns : goal.returns
returns c = standing_next-snoc
