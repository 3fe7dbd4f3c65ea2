use Rattle.aim_grid.proofs.Legs.{set_out}
use Rattle.aim_grid.proofs.laws.setting_out_takes_no_turn.Goals as goal

pub returns : goal.returns
returns c = set_out
