use Rattle.aim_grid.proofs.Rests.{rests}
use Rattle.aim_grid.proofs.laws.who_is_through_rests.Goals as goal

pub returns : goal.returns
returns c = rests
