-- Windows of a trial as they move from step to step. No public clause cites this.
use Rattle.std.specs.Prelude.{ℕ, Bool, ◌≡◌, ◌<◌, ◌≤◌, ◌+◌, List, length}
use Rattle.aim_messages.specs.declared.messages.Params.{Params}
use Rattle.aim_messages.specs.declared.entries.TheConstants.{LATEST_MOMENT}
use Rattle.aim_geometry.specs.Bounded.{ceil_div}
use Rattle.aim_geometry.specs.Sites.{IsGrid, IsTimes}
use Rattle.aim_layout.specs.Intersection.{Intersection, stations}
use Rattle.aim_geometry.specs.declared.tiles.TileRect.{TileRect}
use Rattle.aim_footprint.specs.declared.reaches.Reach.{Reach}
use Rattle.aim_footprint.specs.declared.windows.TileWindow.{TileWindow}
use Rattle.aim_footprint.specs.Windows.{IsWindow}
use Rattle.aim_footprint.specs.Reaches.{reach_at, AreReachesOf}
use Rattle.aim_footprint.specs.Fills.{AreRectsOf}

-- the rectangles and the reaches are those of a trial with its static buffer, on a layout with these times
pub record IsTrial (i : Intersection) (p : Params) (fast : Bool) (rects : List TileRect) (reaches : List Reach) : Type 0 where
  pub grid : IsGrid i.grid
  pub times : IsTimes i.times
  pub arrive : p.arrive ≤ LATEST_MOMENT
  pub reach : AreReachesOf i p fast reaches
  pub some_steps : 0 < length reaches
  pub steps : length reaches ≤ 2048
  pub some : 0 < length rects
  pub round : AreRectsOf i.grid (ceil_div p.width 2 + i.grid.spacing + i.grid.fixed) (stations i p.lane p.turn) rects

-- the window is on the first rectangle
pub record IsFirst (rects : List TileRect) (w : TileWindow) : Type 0 where
  pub window : IsWindow rects w
  pub low : w.low ≡ 0
  pub next : w.next ≡ 1

-- the window has not come further than the crossing steps from `low` on, and those from `high` on, need
pub record MayMove (rects : List TileRect) (reaches : List Reach) (w : TileWindow) (low high : ℕ) : Type 0 where
  pub window : IsWindow rects w
  pub low_on : (j : ℕ) → low ≤ j → j < length reaches → w.low ≤ (reach_at reaches j).low
  pub next_on : (j : ℕ) → high ≤ j → j < length reaches → w.next ≤ (reach_at reaches j).high + 1

-- the window is that of the crossing steps from `low` to `high`
pub record IsMoved (rects : List TileRect) (reaches : List Reach) (w : TileWindow) (low high : ℕ) : Type 0 where
  pub window : IsWindow rects w
  pub first : w.low ≡ (reach_at reaches low).low
  pub past : w.next ≡ (reach_at reaches high).high + 1
