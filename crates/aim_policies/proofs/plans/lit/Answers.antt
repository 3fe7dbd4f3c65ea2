use Rattle.std.proofs.Common.{sym, ◌∙◌}
use Rattle.aim_layout.specs.declared.policies.Phase.{Phase}
use Rattle.aim_policies.proofs.Phases.{lit_red, lit_green, lit_past, lit_none}
use Rattle.aim_policies.proofs.plans.lit.Goals as goal

-- what a read past the end would give
abbrev none : Phase
none = record { red = 0; green = 0; lanes = 0 }

pub returns-then-left-phase : goal.returns-then-left-phase
returns-then-left-phase c = sym (c.loop-phase.invariant ∙ lit_red c.args.phases.now c.loop-phase.phase-index c.loop-phase.left none c.loop-phase-test.true c.if-left-phase.true)

pub returns-then-left-phase-2 : goal.returns-then-left-phase-2
returns-then-left-phase-2 c = sym (c.loop-phase.invariant ∙ lit_green c.args.phases.now c.loop-phase.phase-index c.loop-phase.left none c.loop-phase-test.true c.if-left-phase.false c.if-left-phase-2.true)

pub loop-phase-preserved : goal.loop-phase-preserved
loop-phase-preserved c = c.loop-phase.invariant ∙ lit_past c.args.phases.now c.loop-phase.phase-index c.loop-phase.left none c.loop-phase-test.true c.if-left-phase.false c.if-left-phase-2.false

pub returns : goal.returns
returns c = sym (c.loop-phase.invariant ∙ lit_none c.args.phases.now c.loop-phase.phase-index c.loop-phase.left c.loop-phase-test.false)
