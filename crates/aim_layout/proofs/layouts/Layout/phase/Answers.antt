use Rattle.std.proofs.Common.{◌<◌, length}
use Rattle.aim_layout.proofs.PolicyLemmas.{phase_read, phase_within}
use Rattle.aim_layout.proofs.layouts.Layout.phase.Goals as goal

pub phase-red-requires : goal.phase-red-requires
phase-red-requires c =
    let there : c.args.policy < length c.self.inside.policies.items = rw (← c.self.view_is) at c.requires.policy in
    phase_within c.self.inside.policies.items c.args.policy c.args.phase c.index.result.now there c.index.ensures (rw (← c.self.view_is) at c.requires.phase)

pub returns : goal.returns
returns c =
    let there : c.args.policy < length c.self.inside.policies.items = rw (← c.self.view_is) at c.requires.policy in
    rw (← c.self.view_is) (phase_read c.self.inside.policies.items c.args.policy c.args.phase c.index.result.now c.phase-red.result there c.index.ensures c.phase-red.ensures)
