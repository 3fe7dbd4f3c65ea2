use Rattle.std.proofs.Common.{◌≡◌, ℕ, ◌<◌, ◌&&◌, ◌||◌, nat_le, nat_lt}
use Rattle.std.specs.Prelude.{if◌then◌else◌}
use Rattle.aim_geometry.specs.Rects.{in_columns, tile_at}
use Rattle.aim_geometry.proofs.masks.join.Given as goal

abbrev pub invariant-loop-row : goal.invariant-loop-row
invariant-loop-row l =
    (r c : ℕ) → r < 64 → c < 64 → tile_at l.rows r c ≡ (if nat_le l.fn.rect.row0 r && nat_lt r l.row then tile_at l.fn.rows r c || in_columns l.fn.rect c else tile_at l.fn.rows r c)
