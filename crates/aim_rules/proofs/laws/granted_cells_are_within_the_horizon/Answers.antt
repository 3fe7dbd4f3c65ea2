use Rattle.aim_rules.proofs.AheadLemmas.{granted_ahead}
use Rattle.aim_rules.proofs.laws.granted_cells_are_within_the_horizon.Goals as goal

pub returns : goal.returns
returns c = granted_ahead
