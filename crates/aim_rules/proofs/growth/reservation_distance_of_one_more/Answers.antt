use Rattle.aim_rules.proofs.LaneLaws.{reservation_distance-snoc}
use Rattle.aim_rules.proofs.growth.reservation_distance_of_one_more.Goals as goal

pub returns : goal.returns
returns c = reservation_distance-snoc
