use Rattle.aim_tiles.proofs.Bounds.{mask_below}
use Rattle.aim_tiles.proofs.checks.is_below.Goals as goal

pub returns-else-size-eq64 : goal.returns-else-size-eq64
returns-else-size-eq64 c = mask_below c.args.mask c.args.size
