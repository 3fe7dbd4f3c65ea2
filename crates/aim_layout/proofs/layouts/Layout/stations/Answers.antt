use Rattle.std.proofs.Common.{◌≡◌, ◌≤◌, length, arith, ap, sym, ◌∙◌}
use Rattle.aim_layout.specs.Intersection.{Intersection, path}
use Rattle.aim_layout.specs.LaneRooms.{offered}
use Rattle.aim_layout.proofs.ValidLemmas.{path_past, path_read, stations_most, stations_some}
use Rattle.aim_layout.proofs.layouts.Layout.stations.Goals as goal

pub returns-then-lane-len-clause-some : goal.returns-then-lane-len-clause-some
returns-then-lane-len-clause-some c =
    let i : Intersection = record { version = c.self.inside.version; grid = c.self.inside.ground.grid; times = c.self.inside.ground.times; lanes = c.self.inside.lanes.items; policies = c.self.inside.policies.items } in
    let e : offered c.stations.result.now ≡ path i c.args.lane c.args.turn = c.stations.ensures ∙ path_read i c.args.lane c.args.turn c.index.result.now (omega arith) c.index.ensures in
    stations_some i c.args.lane c.args.turn c.stations.result.now c.self.invariant.0.sound e

pub returns-then-lane-len-clause-most : goal.returns-then-lane-len-clause-most
returns-then-lane-len-clause-most c =
    let i : Intersection = record { version = c.self.inside.version; grid = c.self.inside.ground.grid; times = c.self.inside.ground.times; lanes = c.self.inside.lanes.items; policies = c.self.inside.policies.items } in
    let e : offered c.stations.result.now ≡ path i c.args.lane c.args.turn = c.stations.ensures ∙ path_read i c.args.lane c.args.turn c.index.result.now (omega arith) c.index.ensures in
    stations_most i c.args.lane c.args.turn c.stations.result.now c.self.invariant.0.sound e

pub returns-else-lane-len-clause-stations : goal.returns-else-lane-len-clause-stations
returns-else-lane-len-clause-stations c =
    let past : length c.args.self.now.lanes ≤ c.args.lane = omega (arith, ap (λ i. length i.lanes) c.self.view_is) in
    sym (path_past c.args.self.now c.args.lane c.args.turn past)

pub returns-then-lane-len-clause-stations : goal.returns-then-lane-len-clause-stations
returns-then-lane-len-clause-stations c =
    let i : Intersection = record { version = c.self.inside.version; grid = c.self.inside.ground.grid; times = c.self.inside.ground.times; lanes = c.self.inside.lanes.items; policies = c.self.inside.policies.items } in
    rw (← c.self.view_is) (c.stations.ensures ∙ path_read i c.args.lane c.args.turn c.index.result.now (omega arith) c.index.ensures)
