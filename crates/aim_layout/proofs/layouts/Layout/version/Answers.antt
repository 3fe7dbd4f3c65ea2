use Rattle.aim_layout.proofs.layouts.Layout.version.Goals as goal

pub returns-clause-valid : goal.returns-clause-valid
returns-clause-valid c = rw (← c.self.view_is) c.self.invariant.0
