use Rattle.aim_grid.proofs.Safe.{reserved}
use Rattle.aim_grid.proofs.laws.legs_are_on_tiles_of_their_own.Goals as goal

pub returns : goal.returns
returns c = reserved
