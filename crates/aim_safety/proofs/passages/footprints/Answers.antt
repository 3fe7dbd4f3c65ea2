use Rattle.std.proofs.Common.{◌∙◌}
use Rattle.aim_rules.specs.Footprint.{crossing_steps}
use Rattle.aim_safety.proofs.FootprintLemmas.{good_fields, on_ok, traced, trial_tried}
use Rattle.aim_safety.proofs.passages.footprints.Goals as goal

pub returns-else-is_cut : goal.returns-else-is_cut
returns-else-is_cut c =
    let good = good_fields c.args.layout.now c.args.params.now c.requires.good in
    let seen = on_ok c.simulate-steps.result _ (c.simulate-steps.ensures.field ∙ good) c.simulate-steps.ensures.visits in
    traced c.args.layout.now c.args.params.now c.args.fast (crossing_steps c.args.layout.now c.args.params.now c.args.fast) _ c.simulate-steps.new.visit c.new.ensures.items c.if-is_cut.false seen

pub simulate-steps-requires-clause-tried : goal.simulate-steps-requires-clause-tried
simulate-steps-requires-clause-tried c = trial_tried c.args.layout.now c.args.params.now c.args.fast c.requires.tried
