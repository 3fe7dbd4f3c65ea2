use Rattle.aim_grid.proofs.Logs.{acked_turn}
use Rattle.aim_grid.proofs.laws.the_ack_comes_in_its_turn.Goals as goal

pub returns : goal.returns
returns c = acked_turn
