-- The rectangles round the stations of a path.
use Rattle.std.specs.Prelude.{ℕ, ◌≡◌, ◌<◌, ◌≤◌, List, length, get_or}
use Rattle.aim_geometry.specs.declared.ground.Grid.{Grid}
use Rattle.aim_geometry.specs.declared.stations.Station.{Station}
use Rattle.aim_geometry.specs.declared.tiles.TileRect.{TileRect}
use Rattle.aim_geometry.specs.Ground.{is_touched}
use Rattle.aim_geometry.specs.Rects.{in_rect}
use Rattle.aim_footprint.specs.Windows.{AreRects, rect_at}

abbrev pub station_at : List Station → ℕ → Station
station_at stations j = get_or stations j (record { x = 0; y = 0 })

-- the stations lie on the ground
abbrev pub AreWithin : Grid → List Station → Type 0
AreWithin g stations = (j : ℕ) → j < length stations → ((station_at stations j).x ≤ g.side) × ((station_at stations j).y ≤ g.side)

-- each rectangle has the tiles that meet the square of that half side round its station
pub record AreRectsOf (g : Grid) (half : ℕ) (stations : List Station) (rects : List TileRect) : Type 0 where
  pub count : length rects ≡ length stations
  pub whole : AreRects rects
  pub exact : (j row col : ℕ) → j < length stations → in_rect (rect_at rects j) row col ≡ is_touched g half (station_at stations j) row col
