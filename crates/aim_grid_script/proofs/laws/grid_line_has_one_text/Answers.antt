use Rattle.aim_grid_script.proofs.Texts.{grid_alone}
use Rattle.aim_grid_script.proofs.laws.grid_line_has_one_text.Goals as goal

pub returns : goal.returns
returns c = grid_alone
