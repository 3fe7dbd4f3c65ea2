use Rattle.aim_grid.proofs.Legs.{legs_followed}
use Rattle.aim_grid.proofs.laws.what_travellers_do_is_followed.Goals as goal

pub returns : goal.returns
returns c = legs_followed
