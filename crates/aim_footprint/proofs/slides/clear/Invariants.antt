use Rattle.std.proofs.Common.{◌≡◌, ℕ, ◌<◌, ◌&&◌, nat_le, nat_lt, not}
use Rattle.std.specs.Prelude.{if◌then◌else◌}
use Rattle.aim_geometry.specs.Rects.{in_columns, in_rect, tile_at}
use Rattle.aim_footprint.proofs.slides.clear.Given as goal

abbrev pub invariant-loop-row : goal.invariant-loop-row
invariant-loop-row l =
    (r c : ℕ) → r < 64 → c < 64 → tile_at l.rows r c ≡ (if nat_le l.fn.gone.row0 r && nat_lt r l.row then tile_at l.fn.rows r c && not (in_columns l.fn.gone c && not (in_rect l.fn.kept r c)) else tile_at l.fn.rows r c)
