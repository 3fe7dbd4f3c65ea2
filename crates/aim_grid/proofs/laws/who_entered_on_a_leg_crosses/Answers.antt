use Rattle.aim_grid.proofs.Safe.{crosses}
use Rattle.aim_grid.proofs.laws.who_entered_on_a_leg_crosses.Goals as goal

pub returns : goal.returns
returns c = crosses
