use Rattle.std.proofs.Common.{◌≤◌, length, arith, refl}
use Rattle.aim_layout.specs.Intersection.{Intersection}
use Rattle.aim_layout.proofs.ValidLemmas.{offered_test, path_past}
use Rattle.aim_layout.proofs.builders.Builder.offers.Goals as goal

pub returns-then-lane-len : goal.returns-then-lane-len
returns-then-lane-len c =
    let i : Intersection = record { version = c.self.inside.version; grid = c.self.inside.ground.grid; times = c.self.inside.ground.times; lanes = c.self.inside.lanes.items; policies = c.self.inside.policies.items } in
    rw (← c.self.view_is) (offered_test i c.args.lane c.args.turn c.index.result.now c.stations.result.now c.is_empty.result (omega arith) c.index.ensures c.stations.ensures c.is_empty.ensures)

pub returns-else-lane-len : goal.returns-else-lane-len
returns-else-lane-len c =
    let i : Intersection = record { version = c.self.inside.version; grid = c.self.inside.ground.grid; times = c.self.inside.ground.times; lanes = c.self.inside.lanes.items; policies = c.self.inside.policies.items } in
    let past : length i.lanes ≤ c.args.lane = omega arith in
    rw (← c.self.view_is, path_past i c.args.lane c.args.turn past) refl
