use Rattle.std.proofs.Common.{◌<◌, length}
use Rattle.aim_layout.proofs.PolicyLemmas.{policy_read}
use Rattle.aim_layout.proofs.layouts.Layout.kind.Goals as goal

pub returns : goal.returns
returns c =
    let there : c.args.policy < length c.self.inside.policies.items = rw (← c.self.view_is) at c.requires in
    rw (← c.self.view_is, c.kind.ensures) (policy_read (λ p. p.kind) c.self.inside.policies.items c.args.policy c.index.result.now there c.index.ensures)
