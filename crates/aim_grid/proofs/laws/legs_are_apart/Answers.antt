use Rattle.aim_grid.proofs.Safe.{apart}
use Rattle.aim_grid.proofs.laws.legs_are_apart.Goals as goal

pub returns : goal.returns
returns c = apart
