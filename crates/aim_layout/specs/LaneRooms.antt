-- The paths of a lane as it is stored. No public clause cites this.
use Rattle.std.specs.Prelude.{List, [], ◌∷◌, Option, Some, None}
use Rattle.aim_geometry.specs.declared.stations.Station.{Station}

-- the path of these stations, none where there are none
abbrev pub offered : List Station → Option (List Station)
offered [] = None
offered (s ∷ ss) = Some (s ∷ ss)
