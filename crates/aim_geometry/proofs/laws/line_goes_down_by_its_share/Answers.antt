use Rattle.aim_geometry.proofs.StationLemmas.{on_line-down}
use Rattle.aim_geometry.proofs.laws.line_goes_down_by_its_share.Goals as goal

pub returns : goal.returns
returns c = on_line-down
