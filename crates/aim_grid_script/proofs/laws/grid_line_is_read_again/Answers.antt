use Rattle.aim_grid_script.proofs.Texts.{grid_again}
use Rattle.aim_grid_script.proofs.laws.grid_line_is_read_again.Goals as goal

pub returns : goal.returns
returns c = grid_again
