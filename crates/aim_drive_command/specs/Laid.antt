-- The layout in the making. No public clause cites this.
use Rattle.std.specs.Prelude.{ℕ, List, filter_map, fold, take, Option, Some, None}
use Rattle.aim_geometry.specs.Sites.{Site}
use Rattle.aim_layout.specs.Added.{Added, added}
use Rattle.aim_layout.specs.Building.{bare}
use Rattle.aim_layout.specs.Intersection.{Intersection}
use Rattle.aim_layout.specs.declared.shapes.Shape.{Shape}
use Rattle.aim_layout.specs.declared.shapes.Shape.TheVariants.{Line, Curve}
use Rattle.aim_script.specs.Said.{added_in, grid_of, times_of}
use Rattle.aim_drive_command.specs.Arms.{ground_numbers, moves, time_numbers}

abbrev pub site : Site
site = record { grid = grid_of ground_numbers; times = times_of time_numbers }

-- the moves as they are added
unfoldable pub ways : List Added
ways = filter_map added_in moves

-- the layout with the first so many of them, and no policy
unfoldable pub laid : ℕ → Intersection
laid count = fold added (bare site 12 1) (take count ways)

-- the shape of a way: a curve where something pulls it
abbrev pub shape_between : ℕ × ℕ → Option (ℕ × ℕ) → ℕ × ℕ → ℕ → Shape
shape_between start None end m = Line start.0 start.1 end.0 end.1 m
shape_between start (Some pull) end m = Curve start.0 start.1 pull.0 pull.1 end.0 end.1 m
