use Rattle.std.proofs.Common.{◌≡◌, ℕ, ◌<◌, ◌||◌, take}
use Rattle.aim_geometry.specs.Rects.{tile_at}
use Rattle.aim_layout.specs.LaneTiles.{is_met}
use Rattle.aim_layout.proofs.lanes.mark.Given as goal

abbrev pub invariant-loop-station : goal.invariant-loop-station
invariant-loop-station l =
    (row col : ℕ) → row < 64 → col < 64 → tile_at l.rows row col ≡ (tile_at l.fn.rows row col || is_met l.ground.grid (take l.station-index l.stations) row col)
