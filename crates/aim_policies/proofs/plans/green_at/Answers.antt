use Rattle.aim_policies.proofs.Rounds.{round-some}
use Rattle.aim_policies.proofs.plans.green_at.Goals as goal

pub nonzero_rem-offset : goal.nonzero_rem-offset
nonzero_rem-offset c = rw c.plan.invariant.3 (round-some _ c.plan.invariant.0)
