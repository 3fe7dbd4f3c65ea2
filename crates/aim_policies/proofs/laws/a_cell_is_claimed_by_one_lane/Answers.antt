use Rattle.aim_policies.proofs.Histories.{one_claims}
use Rattle.aim_policies.proofs.laws.a_cell_is_claimed_by_one_lane.Goals as goal

pub returns : goal.returns
returns c i h a b cell valid x y = one_claims i h a b cell valid x y
