-- What the cells of a crossing depend on: the ground, the stations of its path, and the vehicle.
use Rattle.std.specs.Prelude.{List, [], ◌∷◌, Some, None, false}
use Rattle.aim_messages.specs.declared.messages.Params.{Params}
use Rattle.aim_messages.specs.declared.messages.Turn.TheVariants as turn
use Rattle.aim_geometry.specs.declared.ground.Grid.{Grid}
use Rattle.aim_geometry.specs.declared.ground.Times.{Times}
use Rattle.aim_geometry.specs.declared.stations.Station.{Station}
use Rattle.aim_layout.specs.Intersection.{Intersection}

-- an intersection with one path alone, whose version no cell depends on
abbrev pub alone : Grid → Times → List Station → Intersection
alone grid times stations = record { version = 1; grid = grid; times = times; lanes = (record { left = Some stations; straight = None; right = None }) ∷ []; policies = [] }

-- the vehicle's crossing on that path
abbrev pub on_it : Params → Params
on_it p = record { lane = 0; turn = turn.Left; arrive = p.arrive; latest = p.latest; speed = p.speed; max_speed = p.max_speed; accel = p.accel; length = p.length; width = p.width; emergency = false }
