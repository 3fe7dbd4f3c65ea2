use Rattle.std.proofs.Common.{◌≡◌, ℕ, ◌<◌}
use Rattle.aim_geometry.specs.Rects.{tile_at}
use Rattle.aim_footprint.specs.Windows.{is_under}
use Rattle.aim_footprint.proofs.windows.rows_of.Given as goal

abbrev pub invariant-loop-j : goal.invariant-loop-j
invariant-loop-j l = (r c : ℕ) → r < 64 → c < 64 → tile_at l.rows r c ≡ is_under l.rects l.fn.low l.j r c
