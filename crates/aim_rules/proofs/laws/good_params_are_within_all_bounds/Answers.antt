use Rattle.aim_rules.proofs.GoodLemmas.{good_params, no_field}
use Rattle.aim_rules.proofs.laws.good_params_are_within_all_bounds.Goals as goal

pub returns : goal.returns
returns c i p = (good_params i p, no_field i p)
