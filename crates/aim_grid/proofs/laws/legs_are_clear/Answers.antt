use Rattle.aim_grid.proofs.Safe.{clear}
use Rattle.aim_grid.proofs.laws.legs_are_clear.Goals as goal

pub returns : goal.returns
returns c = clear
