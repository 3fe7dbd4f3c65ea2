use Rattle.std.proofs.Common.{◌<◌, length, refl, sym, ◌∙◌, arith}
use Rattle.aim_layout.specs.Intersection.{Intersection}
use Rattle.aim_layout.specs.Building.{with_policy}
use Rattle.aim_layout.proofs.LaneTileLemmas.{HasTiles-same}
use Rattle.aim_layout.proofs.PolicyLemmas.{last_there}
use Rattle.aim_layout.proofs.SoundLemmas.{IsSound-policy}
use Rattle.aim_layout.proofs.builders.Builder.add_policy.Goals as goal

pub invariant_of-self : goal.invariant_of-self
invariant_of-self c =
    let i : Intersection = record { version = c.self.inside.version; grid = c.self.inside.ground.grid; times = c.self.inside.ground.times; lanes = c.self.inside.lanes.items; policies = c.self.inside.policies.items } in
    let room : length i.policies < 8 = omega arith in
    let sound = IsSound-policy i c.args.kind c.self.invariant.0 room (rw (← c.self.view_is) at (sym c.lacks_phase.ensures ∙ c.if-lacks_phase.false)) in
    let tiles = HasTiles-same i (with_policy i c.args.kind) c.self.inside.tiles.items refl refl c.self.invariant.1 in
    rw (c.push_reserved.ensures.items, c.new.ensures) (sound, tiles, omega arith)

pub overflow_sub-result : goal.overflow_sub-result
overflow_sub-result c =
    let i : Intersection = record { version = c.self.inside.version; grid = c.self.inside.ground.grid; times = c.self.inside.ground.times; lanes = c.self.inside.lanes.items; policies = c.self.inside.policies.items } in
    let some : 0 < length i.policies = last_there i (rw (← c.self.view_is) at (sym c.lacks_phase.ensures ∙ c.if-lacks_phase.true)) in
    omega arith
