use Rattle.aim_rules.proofs.VehicleLaws.{kept-snoc}
use Rattle.aim_rules.proofs.growth.kept_of_one_more.Goals as goal

pub returns : goal.returns
returns c = kept-snoc
