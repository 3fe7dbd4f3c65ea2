-- What one caller keeps of its last crossing.
use Rattle.std.specs.Prelude.{◌≡◌, ℕ, List, Some}
use Rattle.aim_messages.specs.declared.messages.Params.{Params}
use Rattle.aim_geometry.specs.declared.ground.Grid.{Grid}
use Rattle.aim_geometry.specs.declared.ground.Times.{Times}
use Rattle.aim_geometry.specs.declared.stations.Station.{Station}
use Rattle.aim_layout.specs.Intersection.{Intersection, stations}
use Rattle.aim_requests.specs.Requests.{IsPreparedFor, Request, prepared_params}

-- Where the request has a crossing, it was prepared for a layout of that version, that grid and those times, and its crossing
-- is on a path with these stations.
pub record IsOn (version : ℕ) (grid : Grid) (times : Times) (path : List Station) (r : Request) (p : Params) : Type 0 where
  pub layout : Intersection
  pub prepared : IsPreparedFor layout r
  pub version_is : layout.version ≡ version
  pub grid_is : layout.grid ≡ grid
  pub times_is : layout.times ≡ times
  pub path_is : stations layout p.lane p.turn ≡ path

abbrev pub IsKept : ℕ → Grid → Times → List Station → Request → Type 0
IsKept version grid times path r = (p : Params) → prepared_params r ≡ Some p → IsOn version grid times path r p
