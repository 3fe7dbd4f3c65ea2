use Rattle.std.proofs.Common.{sym, ◌∙◌}
use Rattle.aim_layout.proofs.SoundLemmas.{IsValid-finish}
use Rattle.aim_layout.specs.Intersection.{Intersection}
use Rattle.aim_layout.proofs.builders.Builder.finish.Goals as goal

pub of_parts-requires-clause-valid : goal.of_parts-requires-clause-valid
of_parts-requires-clause-valid c =
    let i : Intersection = record { version = c.self.inside.version; grid = c.self.inside.ground.grid; times = c.self.inside.ground.times; lanes = c.self.inside.lanes.items; policies = c.self.inside.policies.items } in
    IsValid-finish i c.self.invariant.0 (rw (← c.self.view_is) at (sym c.is_unfinished.ensures ∙ c.if-is_unfinished.false))

pub returns-clause-valid : goal.returns-clause-valid
returns-clause-valid c =
    let i : Intersection = record { version = c.self.inside.version; grid = c.self.inside.ground.grid; times = c.self.inside.ground.times; lanes = c.self.inside.lanes.items; policies = c.self.inside.policies.items } in
    rw (← c.self.view_is) (IsValid-finish i c.self.invariant.0 (rw (← c.self.view_is) at (sym c.is_unfinished.ensures ∙ c.if-is_unfinished.false)))
