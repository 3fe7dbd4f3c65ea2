use Rattle.aim_grid.proofs.Logs.{follows_begins}
use Rattle.aim_grid.proofs.laws.logs_begin_with_their_plans.Goals as goal

pub returns : goal.returns
returns c = follows_begins
