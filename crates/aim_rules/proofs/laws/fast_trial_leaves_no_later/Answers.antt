use Rattle.aim_rules.proofs.SlowerLemmas.{slower}
use Rattle.aim_rules.proofs.laws.fast_trial_leaves_no_later.Goals as goal

pub returns : goal.returns
returns c = slower
