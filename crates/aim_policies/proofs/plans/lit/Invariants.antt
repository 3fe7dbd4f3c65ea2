use Rattle.std.proofs.Common.{◌≡◌, drop}
use Rattle.aim_rules.specs.Lights.{lit}
use Rattle.aim_policies.proofs.plans.lit.Given as goal

abbrev pub invariant-loop-phase : goal.invariant-loop-phase
invariant-loop-phase l = lit l.phases l.offset ≡ lit (drop l.phase-index l.phases) l.left
