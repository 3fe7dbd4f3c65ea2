use Rattle.aim_footprint.proofs.GoodLemmas.{good_crossing}
use Rattle.aim_footprint.proofs.fields.steady_steps.Goals as goal

pub step_count-requires-clause-moving : goal.step_count-requires-clause-moving
step_count-requires-clause-moving c = (good_crossing c.args.layout.now c.args.params.now c.requires.good).moving
