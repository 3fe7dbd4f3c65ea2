use Rattle.std.proofs.Common.{◌∙◌, sym, ap, take, slice_get}
use Rattle.aim_rules.specs.Lights.{round}
use Rattle.aim_policies.proofs.Phases.{plan_read, count_read, dark_read, range_read}
use Rattle.aim_policies.proofs.Places.{few_read, past_read, policy_there}
use Rattle.aim_policies.proofs.plans.Plan.of.Goals as goal

pub returns-then-policy-policies : goal.returns-then-policy-policies
returns-then-policy-policies c = past_read c.args.layout.now c.args.policy c.policies.result c.policies.ensures.count c.if-policy-policies.true

pub kind-kind-requires : goal.kind-kind-requires
kind-kind-requires c = policy_there c.args.layout.now c.args.policy c.policies.result c.policies.ensures.count c.if-policy-policies.false

pub returns-then-not-has_lights : goal.returns-then-not-has_lights
returns-then-not-has_lights c = dark_read c.args.layout.now c.args.policy c.kind-kind.result c.kind-kind.ensures (sym c.has_lights.ensures ∙ c.if-not-has_lights.true)

pub phases-count-requires : goal.phases-count-requires
phases-count-requires c = policy_there c.args.layout.now c.args.policy c.policies.result c.policies.ensures.count c.if-policy-policies.false

pub gather-round-requires-clause-there : goal.gather-round-requires-clause-there
gather-round-requires-clause-there c = policy_there c.args.layout.now c.args.policy c.policies.result c.policies.ensures.count c.if-policy-policies.false

pub gather-round-requires-clause-count : goal.gather-round-requires-clause-count
gather-round-requires-clause-count c = count_read (slice_get c.args.layout.now.policies c.args.policy) c.phases-count.result c.phases-count.ensures

pub gather-round-requires-clause-most : goal.gather-round-requires-clause-most
gather-round-requires-clause-most c = few_read c.args.layout.now c.args.policy c.phases-count.result c.policies.ensures.valid c.phases-count.ensures

pub gather-round-requires-clause-range : goal.gather-round-requires-clause-range
gather-round-requires-clause-range c = range_read c.args.layout.now c.args.policy c.policies.ensures.valid

pub invariant_of-result : goal.invariant_of-result
invariant_of-result c =
    let i = c.args.layout.now in (
      (plan_read i c.args.policy c.kind-kind.result (take c.phases-count.result c.gather-round.new.phases) c.policies.ensures.valid c.kind-kind.ensures (sym c.has_lights.ensures ∙ c.if-not-has_lights.false) c.gather-round.ensures.phases).0,
      few_read i c.args.policy c.phases-count.result c.policies.ensures.valid c.phases-count.ensures,
      c.gather-round.array_long,
      c.gather-round.ensures.round ∙ ap round (sym c.gather-round.ensures.phases),
    )

pub returns : goal.returns
returns c =
    let i = c.args.layout.now in
    (plan_read i c.args.policy c.kind-kind.result (take c.phases-count.result c.gather-round.new.phases) c.policies.ensures.valid c.kind-kind.ensures (sym c.has_lights.ensures ∙ c.if-not-has_lights.false) c.gather-round.ensures.phases).1
