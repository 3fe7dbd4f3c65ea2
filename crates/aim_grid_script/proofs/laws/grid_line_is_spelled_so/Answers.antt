use Rattle.aim_grid_script.proofs.Texts.{grid_was_spelled}
use Rattle.aim_grid_script.proofs.laws.grid_line_is_spelled_so.Goals as goal

pub returns : goal.returns
returns c = grid_was_spelled
