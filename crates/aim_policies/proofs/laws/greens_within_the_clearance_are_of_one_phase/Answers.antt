use Rattle.aim_policies.proofs.Greens.{green_one}
use Rattle.aim_policies.proofs.laws.greens_within_the_clearance_are_of_one_phase.Goals as goal

pub returns : goal.returns
returns c i policy first last a b valid l m h k = green_one i policy first last a b valid l m h k
