use Rattle.aim_policies.proofs.Greens.{green_clear}
use Rattle.aim_policies.proofs.laws.policies_begin_with_a_red_that_clears.Goals as goal

pub returns : goal.returns
returns c i policy offset lane valid h = green_clear i policy offset lane valid h
