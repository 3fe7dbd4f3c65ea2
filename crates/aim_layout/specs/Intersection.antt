-- What contracts see of a layout.
use Rattle.std.specs.Prelude.{ℕ, List, [], Option, slice_get, option_and_then, unwrap_or}
use Rattle.aim_messages.specs.declared.messages.Turn.{Turn}
use Rattle.aim_messages.specs.declared.messages.Turn.TheVariants.{Left, Straight, Right}
use Rattle.aim_geometry.specs.declared.ground.Grid.{Grid}
use Rattle.aim_geometry.specs.declared.ground.Times.{Times}
use Rattle.aim_layout.specs.declared.policies.PolicyKind.{PolicyKind}
use Rattle.aim_layout.specs.declared.policies.Phase.{Phase}
use Rattle.aim_geometry.specs.declared.stations.Station.{Station}

-- for each movement, the stations of its path, if the lane offers it; in names a movement is a turn
pub record Lane : Type 0 where
  pub left : Option (List Station)
  pub straight : Option (List Station)
  pub right : Option (List Station)

pub record Policy : Type 0 where
  pub kind : PolicyKind
  pub phases : List Phase

-- the version is that of the rules by which messages are answered
pub record Intersection : Type 0 where
  pub version : ℕ
  pub grid : Grid
  pub times : Times
  pub lanes : List Lane
  pub policies : List Policy

abbrev pub path_of : Lane → Turn → Option (List Station)
path_of l Left = l.left
path_of l Straight = l.straight
path_of l Right = l.right

-- the stations of the lane's path with that turn
abbrev pub path : Intersection → ℕ → Turn → Option (List Station)
path i lane turn = option_and_then (λ l. path_of l turn) (slice_get i.lanes lane)

-- the stations of the lane's path with that turn, none where there is no such path
abbrev pub stations : Intersection → ℕ → Turn → List Station
stations i lane turn = unwrap_or (path i lane turn) []
