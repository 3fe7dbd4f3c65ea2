use Rattle.aim_grid_script.proofs.Texts.{grid_is_one_line}
use Rattle.aim_grid_script.proofs.laws.grid_text_is_one_line.Goals as goal

pub returns : goal.returns
returns c = grid_is_one_line
