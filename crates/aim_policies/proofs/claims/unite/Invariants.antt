use Rattle.std.proofs.Common.{◌≡◌, ℕ, ◌<◌, ◌||◌, nat_lt}
use Rattle.std.specs.Prelude.{if◌then◌else◌}
use Rattle.aim_geometry.specs.Rects.{tile_at}
use Rattle.aim_policies.proofs.claims.unite.Given as goal

abbrev pub invariant-loop-row : goal.invariant-loop-row
invariant-loop-row l =
    (r c : ℕ) → r < 64 → tile_at l.rows r c ≡ (if nat_lt r l.row then tile_at l.fn.rows r c || tile_at l.more r c else tile_at l.fn.rows r c)
