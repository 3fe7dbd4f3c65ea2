-- Which numbers make a ground.
use Rattle.std.specs.Prelude.{◌≡◌, ◌<◌, ◌≤◌, ◌*◌, ◌%◌, Bool, not, ◌||◌, ◌==◌, nat_lt, Option, Some, None, if◌then◌else◌}
use Rattle.aim_geometry.specs.declared.ground.Grid.{Grid}
use Rattle.aim_geometry.specs.declared.ground.Times.{Times}
use Rattle.aim_geometry.specs.declared.ground.GroundFault.{GroundFault}
use Rattle.aim_geometry.specs.declared.ground.GroundFault.TheVariants as fault
use Rattle.aim_geometry.specs.Bounded.{is_outside}
use Rattle.aim_geometry.specs.Ground.{tile_of}

-- the numbers of a ground
pub record Site : Type 0 where
  pub grid : Grid
  pub times : Times

abbrev pub has_bad_numbers : Grid → Bool
has_bad_numbers g =
    is_outside g.side 1000000 || is_outside g.n 64 || not (g.side % g.n == 0) || is_outside g.spacing 10000 || nat_lt 10000 g.fixed || nat_lt 100000 g.half
    || is_outside g.spans 131072

abbrev pub has_bad_buffers : Times → Bool
has_bad_buffers t = nat_lt t.edge t.early || nat_lt t.edge t.late

abbrev pub has_bad_times : Times → Bool
has_bad_times t = is_outside t.horizon 8192 || is_outside t.longest 65536 || nat_lt 1024 t.clearance || nat_lt 1024 t.edge || nat_lt t.horizon t.window

-- why the numbers make no ground
abbrev pub ground_fault : Grid → Times → Option GroundFault
ground_fault g t =
    if has_bad_numbers g then Some fault.Grid
    else if has_bad_buffers t then Some fault.Buffers
    else if has_bad_times t then Some fault.Times
    else None

-- the numbers of a grid are in their ranges, and its tiles fill the side
pub record IsGrid (g : Grid) : Type 0 where
  pub side : g.side ≤ 1000000
  pub some_rows : 0 < g.n
  pub rows : g.n ≤ 64
  pub tiles : g.n * tile_of g ≡ g.side
  pub tile : 0 < tile_of g
  pub some_spacing : 0 < g.spacing
  pub spacing : g.spacing ≤ 10000
  pub fixed : g.fixed ≤ 10000
  pub half : g.half ≤ 100000
  pub some_spans : 0 < g.spans
  pub spans : g.spans ≤ 131072

-- the times are in their ranges
pub record IsTimes (t : Times) : Type 0 where
  pub some_horizon : 0 < t.horizon
  pub horizon : t.horizon ≤ 8192
  pub some_longest : 0 < t.longest
  pub longest : t.longest ≤ 65536
  pub clearance : t.clearance ≤ 1024
  pub early : t.early ≤ t.edge
  pub late : t.late ≤ t.edge
  pub edge : t.edge ≤ 1024
  pub window : t.window ≤ t.horizon

pub record IsSite (s : Site) : Type 0 where
  pub grid : IsGrid s.grid
  pub times : IsTimes s.times
