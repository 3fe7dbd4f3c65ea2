use Rattle.aim_geometry.proofs.StationLemmas.{on_line-up}
use Rattle.aim_geometry.proofs.laws.line_goes_up_by_its_share.Goals as goal

pub returns : goal.returns
returns c = on_line-up
