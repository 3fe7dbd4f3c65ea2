use Rattle.std.proofs.Common.{◌∙◌, slice_get, refl}
use Rattle.std.proofs.lemmas.List.{length-set}
use Rattle.aim_layout.specs.declared.policies.Phase.{Phase}
use Rattle.aim_policies.specs.Plans.{phases_of}
use Rattle.aim_policies.proofs.Places.{place_fits, offset_fits, place_below, fewer_left, phase_there, steps_fit, round_fits, round_most, round_next, taken_next, zero_most, all_taken, all_round}
use Rattle.aim_policies.proofs.plans.gather.Goals as goal

pub loop-number-init : goal.loop-number-init
loop-number-init c = record { long = c.told-phases; taken = refl; steps = refl; most = zero_most }

pub phase-red-requires-clause-policy : goal.phase-red-requires-clause-policy
phase-red-requires-clause-policy c = c.requires.there

pub phase-red-requires-clause-phase : goal.phase-red-requires-clause-phase
phase-red-requires-clause-phase c = phase_there (slice_get c.args.layout.now.policies c.args.policy) c.loop-number.number c.args.count c.requires.count c.loop-number-test.true

pub overflow_cast-number : goal.overflow_cast-number
overflow_cast-number c = place_fits c.loop-number.number c.args.count c.loop-number-test.true c.requires.most

pub offset_bounds-phases-number : goal.offset_bounds-phases-number
offset_bounds-phases-number c = offset_fits c.loop-number.number c.args.count c.loop-number-test.true c.requires.most

pub bounds-phases-number : goal.bounds-phases-number
bounds-phases-number c = place_below c.loop-number.number c.args.count c.loop-number-test.true c.requires.most

pub overflow_add-round : goal.overflow_add-round
overflow_add-round c =
    steps_fit (slice_get c.args.layout.now.policies c.args.policy) c.loop-number.number (record { red = c.phase-red.result.0; green = c.phase-red.result.1; lanes = c.phase-red.result.2 }) c.requires.range c.phase-red.ensures

pub overflow_add-round-in-loop-number : goal.overflow_add-round-in-loop-number
overflow_add-round-in-loop-number c =
    round_fits (slice_get c.args.layout.now.policies c.args.policy) c.loop-number.number c.args.count c.loop-number.round (record { red = c.phase-red.result.0; green = c.phase-red.result.1; lanes = c.phase-red.result.2 })
    c.requires.range c.phase-red.ensures c.loop-number-test.true c.requires.most c.loop-number.invariant.most

pub loop-number-smaller : goal.loop-number-smaller
loop-number-smaller c = fewer_left c.loop-number.number c.args.count c.loop-number-test.true

pub loop-number-preserved : goal.loop-number-preserved
loop-number-preserved c =
    let o = slice_get c.args.layout.now.policies c.args.policy in
    let n = c.loop-number.number in
    let f : Phase = record { red = c.phase-red.result.0; green = c.phase-red.result.1; lanes = c.phase-red.result.2 } in record {
      long = length-set c.loop-number.phases n f ∙ c.loop-number.invariant.long;
      taken = taken_next o c.loop-number.phases n c.args.count f c.phase-red.ensures c.loop-number-test.true c.requires.most c.loop-number.invariant.long c.loop-number.invariant.taken;
      steps = round_next o n c.loop-number.round f c.phase-red.ensures c.loop-number.invariant.steps;
      most = round_most o n c.loop-number.round f c.requires.range c.phase-red.ensures c.loop-number.invariant.most;
    }

pub returns-clause-phases : goal.returns-clause-phases
returns-clause-phases c =
    all_taken c.loop-number.phases (phases_of (slice_get c.args.layout.now.policies c.args.policy)) c.loop-number.number c.args.count
    c.loop-number.auto.number-end c.loop-number-test.false c.requires.count c.loop-number.invariant.taken

pub returns-clause-round : goal.returns-clause-round
returns-clause-round c =
    all_round (phases_of (slice_get c.args.layout.now.policies c.args.policy)) c.loop-number.number c.args.count c.loop-number.round
    c.loop-number-test.false c.requires.count c.loop-number.invariant.steps
