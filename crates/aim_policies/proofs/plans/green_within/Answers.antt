use Rattle.std.proofs.Common.{◌∙◌, arith}
use Rattle.aim_policies.proofs.Rounds.{round-some, met_window}
use Rattle.aim_policies.proofs.plans.green_within.Goals as goal

pub nonzero_rem-first : goal.nonzero_rem-first
nonzero_rem-first c = rw c.plan.invariant.3 (round-some _ c.plan.invariant.0)

pub overflow_add-to : goal.overflow_add-to
overflow_add-to c = omega arith

pub returns : goal.returns
returns c = λ lane.
    rw (← c.plan.view_is)
    (c.met_lanes.ensures lane
    ∙ met_window _ c.args.first c.args.last c.from-from.result c.from.result c.from-round.result lane c.plan.invariant.0 c.requires
    (c.from-round.ensures ∙ c.plan.invariant.3) (rw c.from-round.ensures c.from-from.ensures) c.from.ensures)
