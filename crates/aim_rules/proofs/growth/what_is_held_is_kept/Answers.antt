use Rattle.aim_rules.proofs.VehicleLaws.{holding-kept}
use Rattle.aim_rules.proofs.growth.what_is_held_is_kept.Goals as goal

pub returns : goal.returns
returns c = holding-kept
