use Rattle.aim_geometry.proofs.StationLemmas.{on_curve-between}
use Rattle.aim_geometry.proofs.laws.curve_stands_between_its_lines.Goals as goal

pub returns : goal.returns
returns c = on_curve-between
