use Rattle.std.proofs.Common.{◌≡◌, Some, ◌∙◌}
use Rattle.aim_layout.specs.LaneRooms.{offered}
use Rattle.aim_layout.specs.Shapes.{stations_of}
use Rattle.aim_layout.proofs.ShapeLemmas.{is_bad_shape-largest}
use Rattle.aim_layout.proofs.LaneLemmas.{offered_some, path_of-with_path_same, stations_inside}
use Rattle.aim_layout.proofs.lanes.add_path.Goals as goal

pub add-requires-clause-shape : goal.add-requires-clause-shape
add-requires-clause-shape c =
    is_bad_shape-largest c.args.shape.now c.args.ground.now.grid.side c.requires.grid.side c.requires.shape

pub mark-requires : goal.mark-requires
mark-requires c =
    let e : offered c.stations.result.now ≡ Some (stations_of c.args.shape.now) =
    c.stations.ensures ∙ rw c.add.ensures (path_of-with_path_same c.args.paths.now c.args.turn (stations_of c.args.shape.now)) in
    let s = offered_some c.stations.result.now (stations_of c.args.shape.now) e in
    rw s (λ j p h. stations_inside c.args.shape.now c.args.ground.now.grid.side j p c.requires.shape h)

pub returns-clause-rows : goal.returns-clause-rows
returns-clause-rows c =
    let e : offered c.stations.result.now ≡ Some (stations_of c.args.shape.now) =
    c.stations.ensures ∙ rw c.add.ensures (path_of-with_path_same c.args.paths.now c.args.turn (stations_of c.args.shape.now)) in
    let s = offered_some c.stations.result.now (stations_of c.args.shape.now) e in
    rw s at c.mark.ensures
